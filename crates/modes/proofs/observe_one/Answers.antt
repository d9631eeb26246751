use Rattle.modes.proofs.ObserveLaws.{observe_words, stays_leaves, stays_filled, shows_leaves, shows_filled, shows_mapped, observe_one_asks, one_room}
use Rattle.modes.proofs.ObserveLaws.{one_small}
use native.Mathlib.Omega.{arith}
use Rattle.modes.proofs.observe_one.Goals as goal

pub returns-then-not-is_hidden-clause-leaves : goal.returns-then-not-is_hidden-clause-leaves
returns-then-not-is_hidden-clause-leaves c =
    let words = observe_words _ _ _ _ _ c.requires.observes in
    let hidden = c.is_hidden.ensures in
    let shown = c.if-not-is_hidden.true in
    λ x. stays_leaves _ _ words _ hidden shown _ _

pub returns-then-not-is_hidden-clause-users_filled : goal.returns-then-not-is_hidden-clause-users_filled
returns-then-not-is_hidden-clause-users_filled c =
    let words = observe_words _ _ _ _ _ c.requires.observes in
    let hidden = c.is_hidden.ensures in
    let shown = c.if-not-is_hidden.true in
    λ x. stays_filled _ _ words _ hidden shown _ _

pub show-p-requires : goal.show-p-requires
show-p-requires c =
    observe_one_asks _ _ _ _ _ c.requires.observes _ c.is_hidden.ensures
    c.if-not-is_hidden.false _ _ c.requires.words

pub bounds-users-k : goal.bounds-users-k
bounds-users-k c =
    one_room _ _ _ _ _ c.requires.observes _ c.is_hidden.ensures c.if-not-is_hidden.false

pub overflow_add-result : goal.overflow_add-result
overflow_add-result c =
    let l = one_small _ _ _ _ _ c.requires.observes _ c.is_hidden.ensures c.if-not-is_hidden.false _ c.show-p.ensures.user_value in
    omega arith

pub returns-clause-leaves : goal.returns-clause-leaves
returns-clause-leaves c =
    let asks = c.requires.observes in
    let words = observe_words _ _ _ _ _ asks in
    let test = c.is_hidden.ensures in
    let hidden = c.if-not-is_hidden.false in
    λ x. shows_leaves _ _ words _ test hidden _ _ _ _ _ (c.show-p.ensures.leaves x)

pub returns-clause-users_filled : goal.returns-clause-users_filled
returns-clause-users_filled c =
    let asks = c.requires.observes in
    let words = observe_words _ _ _ _ _ asks in
    let test = c.is_hidden.ensures in
    let hidden = c.if-not-is_hidden.false in
    λ x. shows_filled _ _ words _ test hidden _ _ _ c.show-p.ensures.user_value

pub returns-clause-all_mapped : goal.returns-clause-all_mapped
returns-clause-all_mapped c =
    let asks = c.requires.observes in
    let words = observe_words _ _ _ _ _ asks in
    let test = c.is_hidden.ensures in
    let hidden = c.if-not-is_hidden.false in
    shows_mapped _ _ _ _ _ asks _ test hidden _ _ _ _ _ _ _ c.show-p.ensures.user_value (c.show-p.ensures.leaves _)
    (omega arith)
