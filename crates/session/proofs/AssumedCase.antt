-- What AssumedLaws supposes can be had: a session in numbers, a literal of which the index is then assumed, and calls that do not take the assumption back.
use mathlib.Core.Path.{◌≡◌, refl, sym, ap, ◌∙◌}
use mathlib.Core.Bool.{true, false, true≢false}
use mathlib.Core.Logic.{◌≢◌}
use mathlib.Core.List.{List, [], ◌∷◌}
use native.Mathlib.Omega.{arith}
use Prim.Native.Nat.{ℕ}
use Rattle.base.specs.Answer.{number_of}
use Rattle.base.specs.Bounded.{all_below, least, count}
use Rattle.drat.specs.declared.Format.TheVariants.{Text}
use Rattle.scope.specs.declared.Mark.TheVariants.{Used, Assumed, Released}
use Rattle.scope.specs.declared.SamplingMode.TheVariants.{Hide}
use Rattle.scope.specs.Table.{Table, word, is_shown, give_user, give_solver, put_record, least_free, next_solver, undeleted}
use Rattle.scope.specs.Sound.{soundb, sizesb, marksb, at_mostb, tailb, backb, namedb, deletedb, tailsb, pairsb, listsb, storedb}
use Rattle.scope.specs.Outcome.{choose, each, unless}
use Rattle.scope.specs.Open.{empty_table}
use Rattle.scope.specs.Map as M
use Rattle.scope.specs.Grant as G
use Rattle.scope.specs.Marks as K
use Rattle.scope.specs.Lookup.{found, lookup_of, global_from_solver_of, record_word_of}
use Rattle.scope.specs.Write.{rename_lits, holders}
use Rattle.scope.specs.Calls.{Call, map_user, grant, set_mode, observe, mark, remove, sweep, lending, perform}
use Rattle.session.specs.Session.{Turn, turn, turn_does, start, enter, after_turn, run}
use Rattle.session.specs.Entered.{entries_of, lines_of}
use Rattle.session.specs.Ledger.{notes_of}
use Rattle.session.specs.Assumed.{NoneReleases, LitsAssumed}
use Rattle.session.proofs.CallLaws.{releasing}
use Rattle.session.proofs.AssumedLaws.{assumed_named}

-- Capacity 2: global 1 is granted solver index 0, and global 0 index 1. Index 0 is assumed.
abbrev crossed : Table
crossed =
    (run Text (start (empty_table 2))
    (turn (map_user 1 false) (lending 6 0 0 0)
    ∷ turn (grant 1) (lending 3 0 0 0)
    ∷ turn (grant 0) (lending 3 0 0 0)
    ∷ turn (mark Assumed 0) (lending 0 0 0 0)
    ∷ [])
    ).table

-- each is another call than Released of 0
abbrev others : List Turn
others =
    turn (remove 0) (lending 6 0 0 0)
    ∷ turn sweep (lending 6 0 0 0)
    ∷ turn (set_mode 1 Hide) (lending 6 0 0 0)
    ∷ turn observe (lending 6 2 0 0)
    ∷ turn (mark Used 0) (lending 0 0 0 0)
    ∷ turn (mark Assumed 0) (lending 0 0 0 0)
    ∷ turn (mark Released 1) (lending 0 0 0 0)
    ∷ []

-- a call that is no mark Released
no_release : (call : Call) → releasing call ≡ false → call ≢ mark Released 0
no_release call e q = true≢false (sym (ap releasing q) ∙ e)

-- Released of another index is refused where only index 0 is held
abbrev once : Table
once = (run Text (start (empty_table 2)) (turn (map_user 0 false) (lending 3 0 0 0) ∷ turn (grant 0) (lending 3 0 0 0) ∷ [])).table

other_index : mark Released 1 ≢ mark Released 0
unfolding all_below least count word is_shown give_user give_solver put_record soundb listsb storedb sizesb marksb at_mostb tailb backb namedb deletedb tailsb
    pairsb choose each unless empty_table least_free M.global_for M.map_one M.fill_gap M.map_user undeleted M.to_map M.unsampled M.map_refusal M.map_of next_solver
    G.grant_one G.grant G.grant_refusal G.grant_of K.not_held K.held_else K.mark K.mark_refusal K.mark_of found lookup_of global_from_solver_of record_word_of notes_of
    perform turn_does entries_of lines_of enter after_turn run
other_index q = let x : ◌≡◌ {A = ℕ} 8 0 = ap (λ (call : Call). number_of (perform Text call (lending 0 0 0 0) once).answer) q in omega arith

-- solver code 1 is global code 3, before these calls and after them
pub case_assumed : LitsAssumed crossed others (1 ∷ []) (3 ∷ [])
unfolding all_below least count word is_shown give_user give_solver put_record soundb listsb storedb sizesb marksb at_mostb tailb backb namedb deletedb tailsb
    pairsb choose each unless empty_table least_free M.global_for M.map_one M.fill_gap M.map_user undeleted M.to_map M.unsampled M.map_refusal M.map_of next_solver
    G.grant_one G.grant G.grant_refusal G.grant_of K.not_held K.held_else K.mark K.mark_refusal K.mark_of found lookup_of global_from_solver_of record_word_of notes_of
    perform turn_does entries_of lines_of enter after_turn run
case_assumed = (record { held = refl; word = 27; recorded = refl; assumed = refl }, refl, none, tt)
  where
    none : NoneReleases others 0
    none = (
      no_release (remove 0) refl,
      (
        no_release sweep refl,
        (
          no_release (set_mode 1 Hide) refl,
          (
            no_release observe refl,
            (
              no_release (mark Used 0) refl,
              (no_release (mark Assumed 0) refl, (other_index, tt)),
            ),
          ),
        ),
      ),
    )

pub case_named : rename_lits (holders (run Text (start crossed) others).table) true (1 ∷ []) ≡ 3 ∷ []
case_named = (assumed_named Text (start crossed) others (1 ∷ []) (3 ∷ []) case_assumed).1
