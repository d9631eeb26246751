use Rattle.std.specs.Prelude.{Err}
use Rattle.std.proofs.lemmas.Result.{err_from_is_err_and}
use Rattle.scope.proofs.RefusedLaws.{refused_err, refused_ok}
use Rattle.simplify.proofs.SortLaws.{cuts_tag}
use Rattle.simplify.proofs.SimplifyLaws.{refuse_literals, clause_nameable, sorted_as, comes_first, parts, meets, kept_bytes, dropped_words}
use Rattle.scope.specs.declared.Simplified.TheVariants.{Kept, Dropped}
use lib.ListN.{length}
use mathlib.Core.Path.{refl, sym, ◌∙◌}
use Rattle.simplify.proofs.known_simplify_clause.Goals as goal

pub returns-in_err-literal_refusal-clause-meets : goal.returns-in_err-literal_refusal-clause-meets
returns-in_err-literal_refusal-clause-meets c =
    let a = c.args in
    let n = sym (refused_err _ _ c.in_err-literal_refusal.was) ∙ refuse_literals _ a.lits.now _ c.requires (c.literal_refusal.ensures _ refl refl) in
    let e = comes_first a.f _ a.lits.now a.redundant (length a.out.now) (length a.bytes.now) _ n in
    let w = parts _ _ _ a.out.now a.bytes.now a.out.now a.bytes.now e refl refl refl in
    let p = err_from_is_err_and c.from_residual.result c.from_residual.ensures.1 in
    rw (p.1, p.2) (meets a.f _ a.lits.now a.redundant (length a.out.now) (length a.bytes.now) (Err _) w.0)

pub returns-in_err-literal_refusal-clause-out : goal.returns-in_err-literal_refusal-clause-out
returns-in_err-literal_refusal-clause-out c =
    let a = c.args in
    let n = sym (refused_err _ _ c.in_err-literal_refusal.was) ∙ refuse_literals _ a.lits.now _ c.requires (c.literal_refusal.ensures _ refl refl) in
    let e = comes_first a.f _ a.lits.now a.redundant (length a.out.now) (length a.bytes.now) _ n in
    let w = parts _ _ _ a.out.now a.bytes.now a.out.now a.bytes.now e refl refl refl in
    w.1.0

pub returns-in_err-literal_refusal-clause-bytes : goal.returns-in_err-literal_refusal-clause-bytes
returns-in_err-literal_refusal-clause-bytes c =
    let a = c.args in
    let n = sym (refused_err _ _ c.in_err-literal_refusal.was) ∙ refuse_literals _ a.lits.now _ c.requires (c.literal_refusal.ensures _ refl refl) in
    let e = comes_first a.f _ a.lits.now a.redundant (length a.out.now) (length a.bytes.now) _ n in
    let w = parts _ _ _ a.out.now a.bytes.now a.out.now a.bytes.now e refl refl refl in
    w.1.1

pub invariant_of-whole : goal.invariant_of-whole
invariant_of-whole c =
    let n = refuse_literals _ c.args.lits.now _ c.requires (c.literal_refusal.ensures _ refl refl) in
    record { nameable = clause_nameable _ _ (sym n ∙ refused_ok _ _ c.in_ok-literal_refusal.was) }

pub drop_clause-requires : goal.drop_clause-requires
drop_clause-requires c =
    let n = refuse_literals _ c.args.lits.now _ c.requires (c.literal_refusal.ensures _ refl refl) in
    clause_nameable _ _ (sym n ∙ refused_ok _ _ c.in_ok-literal_refusal.was)

pub shorten_clause-requires : goal.shorten_clause-requires
shorten_clause-requires c = cuts_tag _ c.in-Shortened.is

pub returns-in-Kept-clause-meets : goal.returns-in-Kept-clause-meets
returns-in-Kept-clause-meets c =
    let a = c.args in
    let n = refuse_literals _ a.lits.now _ c.requires (c.literal_refusal.ensures _ refl refl) in
    let s = sorted_as _ a.lits.now Kept _ _ n (refused_ok _ _ c.in_ok-literal_refusal.was) (c.sort_clause-what.ensures _ refl) c.in-Kept.is in
    meets a.f _ a.lits.now a.redundant (length a.out.now) (length a.bytes.now) c.keep_clause.result (c.keep_clause.ensures a.f _ a.redundant (length a.bytes.now) s).0

pub returns-in-Kept-clause-out : goal.returns-in-Kept-clause-out
returns-in-Kept-clause-out c =
    let a = c.args in
    let n = refuse_literals _ a.lits.now _ c.requires (c.literal_refusal.ensures _ refl refl) in
    let s = sorted_as _ a.lits.now Kept _ _ n (refused_ok _ _ c.in_ok-literal_refusal.was) (c.sort_clause-what.ensures _ refl) c.in-Kept.is in
    (c.keep_clause.ensures a.f _ a.redundant (length a.bytes.now) s).1

pub returns-in-Kept-clause-bytes : goal.returns-in-Kept-clause-bytes
returns-in-Kept-clause-bytes c =
    let a = c.args in
    let n = refuse_literals _ a.lits.now _ c.requires (c.literal_refusal.ensures _ refl refl) in
    let s = sorted_as _ a.lits.now Kept _ _ n (refused_ok _ _ c.in_ok-literal_refusal.was) (c.sort_clause-what.ensures _ refl) c.in-Kept.is in
    kept_bytes a.f _ a.lits.now a.redundant a.out.now a.bytes.now s.passes s.sort

pub returns-in-Dropped-clause-meets : goal.returns-in-Dropped-clause-meets
returns-in-Dropped-clause-meets c =
    let a = c.args in
    let n = refuse_literals _ a.lits.now _ c.requires (c.literal_refusal.ensures _ refl refl) in
    let s = sorted_as _ a.lits.now Dropped _ _ n (refused_ok _ _ c.in_ok-literal_refusal.was) (c.sort_clause-what.ensures _ refl) c.in-Dropped.is in
    meets a.f _ a.lits.now a.redundant (length a.out.now) (length a.bytes.now) c.drop_clause.result (c.drop_clause.ensures _ (length a.out.now) s refl).0

pub returns-in-Dropped-clause-out : goal.returns-in-Dropped-clause-out
returns-in-Dropped-clause-out c =
    let a = c.args in
    let n = refuse_literals _ a.lits.now _ c.requires (c.literal_refusal.ensures _ refl refl) in
    let s = sorted_as _ a.lits.now Dropped _ _ n (refused_ok _ _ c.in_ok-literal_refusal.was) (c.sort_clause-what.ensures _ refl) c.in-Dropped.is in
    dropped_words a.f _ a.lits.now a.redundant a.out.now a.bytes.now s.passes s.sort

pub returns-in-Dropped-clause-bytes : goal.returns-in-Dropped-clause-bytes
returns-in-Dropped-clause-bytes c =
    let a = c.args in
    let n = refuse_literals _ a.lits.now _ c.requires (c.literal_refusal.ensures _ refl refl) in
    let s = sorted_as _ a.lits.now Dropped _ _ n (refused_ok _ _ c.in_ok-literal_refusal.was) (c.sort_clause-what.ensures _ refl) c.in-Dropped.is in
    (c.drop_clause.ensures _ (length a.out.now) s refl).1

pub returns-in-Shortened-clause-meets : goal.returns-in-Shortened-clause-meets
returns-in-Shortened-clause-meets c =
    let a = c.args in
    let n = refuse_literals _ a.lits.now _ c.requires (c.literal_refusal.ensures _ refl refl) in
    let s = sorted_as _ a.lits.now _ _ _ n (refused_ok _ _ c.in_ok-literal_refusal.was) (c.sort_clause-what.ensures _ refl) refl in
    meets a.f _ a.lits.now a.redundant (length a.out.now) (length a.bytes.now) c.shorten_clause.result (c.shorten_clause.ensures _ s refl refl).0

pub returns-in-Shortened-clause-out : goal.returns-in-Shortened-clause-out
returns-in-Shortened-clause-out c =
    let a = c.args in
    let n = refuse_literals _ a.lits.now _ c.requires (c.literal_refusal.ensures _ refl refl) in
    let s = sorted_as _ a.lits.now _ _ _ n (refused_ok _ _ c.in_ok-literal_refusal.was) (c.sort_clause-what.ensures _ refl) refl in
    (c.shorten_clause.ensures _ s refl refl).1.0

pub returns-in-Shortened-clause-bytes : goal.returns-in-Shortened-clause-bytes
returns-in-Shortened-clause-bytes c =
    let a = c.args in
    let n = refuse_literals _ a.lits.now _ c.requires (c.literal_refusal.ensures _ refl refl) in
    let s = sorted_as _ a.lits.now _ _ _ n (refused_ok _ _ c.in_ok-literal_refusal.was) (c.sort_clause-what.ensures _ refl) refl in
    (c.shorten_clause.ensures _ s refl refl).1.1
