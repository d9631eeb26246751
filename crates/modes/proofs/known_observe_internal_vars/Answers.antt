use Rattle.std.proofs.lemmas.Result.{err_from_is_err_and}
use Rattle.scope.proofs.RefusedLaws.{refused_ok}
use native.Mathlib.Omega.{arith}
use Rattle.modes.proofs.ObserveCallLaws.{mark_words, observe_none, observe_refused, observe_asks, observe_fits, observe_does}
use Rattle.modes.proofs.known_observe_internal_vars.Goals as goal

pub count_hidden-hidden-requires : goal.count_hidden-hidden-requires
count_hidden-hidden-requires c =
    mark_words _ c.requires.records_value

pub returns-then-hidden-eq0-clause-meets : goal.returns-then-hidden-eq0-clause-meets
returns-then-hidden-eq0-clause-meets c =
    (observe_none _ _ _ _ c.requires.records_value c.count_hidden-hidden.ensures (let k = c.if-hidden-eq0.true in omega arith)).0

pub returns-then-hidden-eq0-clause-out : goal.returns-then-hidden-eq0-clause-out
returns-then-hidden-eq0-clause-out c =
    (observe_none _ _ _ _ c.requires.records_value c.count_hidden-hidden.ensures (let k = c.if-hidden-eq0.true in omega arith)).1

pub returns-in_err-observe_refusal-clause-meets : goal.returns-in_err-observe_refusal-clause-meets
returns-in_err-observe_refusal-clause-meets c =
    let p = err_from_is_err_and c.from_residual.result c.from_residual.ensures.1 in
    rw (p.1, p.2) (observe_refused _ _ _ c.args.users.now _ c.observe_refusal.ensures c.in_err-observe_refusal.was).0

pub returns-in_err-observe_refusal-clause-out : goal.returns-in_err-observe_refusal-clause-out
returns-in_err-observe_refusal-clause-out c =
    (observe_refused _ _ _ _ _ c.observe_refusal.ensures c.in_err-observe_refusal.was).1

pub observe_all-k-requires : goal.observe_all-k-requires
observe_all-k-requires c =
    observe_asks _ _ _ _ c.observe_refusal.ensures (refused_ok _ _ c.in_ok-observe_refusal.was) _ c.requires.all_mapped

pub overflow_cast-result : goal.overflow_cast-result
overflow_cast-result c =
    record {
      fits = (observe_fits _ _ _ _ c.observe_refusal.ensures (refused_ok _ _ c.in_ok-observe_refusal.was) _ _ _ _ _ _ _
          (c.observe_all-k.ensures.leaves _, c.observe_all-k.ensures.users_filled _)).0;
    }

pub overflow_cast-result-2 : goal.overflow_cast-result-2
overflow_cast-result-2 c =
    record {
      fits = (observe_fits _ _ _ _ c.observe_refusal.ensures (refused_ok _ _ c.in_ok-observe_refusal.was) _ _ _ _ _ _ _
          (c.observe_all-k.ensures.leaves _, c.observe_all-k.ensures.users_filled _)).1;
    }

pub returns-clause-meets : goal.returns-clause-meets
returns-clause-meets c =
    (observe_does _ _ _ _ c.observe_refusal.ensures (refused_ok _ _ c.in_ok-observe_refusal.was) _ _ _ _ _ _ _ _
    (c.observe_all-k.ensures.leaves _, c.observe_all-k.ensures.users_filled _)).0

pub returns-clause-out : goal.returns-clause-out
returns-clause-out c =
    (observe_does _ _ _ _ c.observe_refusal.ensures (refused_ok _ _ c.in_ok-observe_refusal.was) _ _ c.args.c _ _ _ _ _
    (c.observe_all-k.ensures.leaves _, c.observe_all-k.ensures.users_filled _)).1
