-- What a contract says, in numbers: the answer, the table left and the words of the notes slice, of an accepted and of a refused call; and
-- which list of the table each lent slice is.
use Prim.Native.Nat.{ℕ}
use mathlib.Core.Path.{◌≡◌, refl}
use mathlib.Core.List.{List, []}
use Rattle.base.specs.Answer.{accepted, refused}
use Rattle.base.specs.Bounded.{all_below, least, count}
use Rattle.base.specs.Lent.{Lent, old, new}
use Rattle.scope.specs.declared.Counts.{Counts}
use Rattle.scope.specs.Table.{Table, table_of, word, is_shown, give_user, least_free, undeleted, next_solver}
use Rattle.scope.specs.Sound.{soundb, sizesb, marksb, at_mostb, tailb, backb, namedb, deletedb, tailsb, pairsb, listsb, storedb}
use Rattle.scope.specs.Notes.{notes_words}
use Rattle.scope.specs.Outcome.{each, unless}
use Rattle.scope.specs.Map.{global_for, map_one, fill_gap, map_user, next_user, new_user, new_user_refusal, new_user_of}
use Rattle.scope.specs.Contract.{given, Said, lent, quiet, Meets}
use Rattle.scope.specs.Anchors.{w2, w3, w4, tab}
use Rattle.scope.specs.AnchorsNames.{opened2}

-- New user of a fresh table of capacity 2, with four words lent for notes, and with two
pub meets_accepted : (said : Said) (leaves : Counts → Table) (noted : List ℕ)
    → Meets new_user_of said (record { table = opened2; leaves = leaves; notes = w4 7 7 7 7; noted = noted })
    → (said.answer ≡ accepted (w3 0 0 1))
    × (leaves said.counts ≡ tab 2 1 1 0 1 0 (w2 1 0) (w2 1 0) (w2 0 0) (w2 0 0) (w2 0 0) (w2 9 47))
    × (noted ≡ w4 0 0 1 7)
unfolding all_below least count word is_shown give_user soundb listsb storedb sizesb marksb at_mostb tailb backb namedb deletedb tailsb pairsb notes_words each
    unless least_free global_for map_one fill_gap map_user next_user new_user undeleted new_user_refusal new_user_of next_solver
meets_accepted said leaves noted d = (d.answer, d.table, d.noted)

pub meets_refused : (said : Said) (leaves : Counts → Table) (noted : List ℕ)
    → Meets new_user_of said (record { table = opened2; leaves = leaves; notes = w2 7 7; noted = noted })
    → (said.answer ≡ refused 2 []) × (leaves said.counts ≡ opened2) × (noted ≡ w2 7 7)
unfolding all_below least count word is_shown give_user soundb listsb storedb sizesb marksb at_mostb tailb backb namedb deletedb tailsb pairsb notes_words each
    unless least_free global_for map_one fill_gap map_user next_user new_user undeleted new_user_refusal new_user_of next_solver
meets_refused said leaves noted d = (d.answer, d.table, d.noted)

-- a table's lists, in the order of the parameters
pub record Lists (t : Table) (c : Counts) (gu ug sg gs a r : List ℕ) : Type 0 where
  pub counts : t.counts ≡ c
  pub global_from_user : t.global_from_user ≡ gu
  pub user_from_global : t.user_from_global ≡ ug
  pub solver_from_global : t.solver_from_global ≡ sg
  pub global_from_solver : t.global_from_solver ≡ gs
  pub assignment : t.assignment ≡ a
  pub records : t.records ≡ r

pub listed : (c : Counts) (gu ug sg gs a r : List ℕ) → Lists (table_of c gu ug sg gs a r) c gu ug sg gs a r
listed c gu ug sg gs a r =
    record { counts = refl; global_from_user = refl; user_from_global = refl; solver_from_global = refl; global_from_solver = refl; assignment = refl; records = refl }

module _ (c d : Counts) (gu ug sg gs a r notes : Lent) where
  -- when the call begins, and when it ends
  pub lent_table : Lists (lent c gu ug sg gs a r notes).table c
      (old gu) (old ug) (old sg) (old gs) (old a) (old r)
  lent_table = listed _ _ _ _ _ _ _

  pub lent_leaves : Lists ((lent c gu ug sg gs a r notes).leaves d) d
      (new gu) (new ug) (new sg) (new gs) (new a) (new r)
  lent_leaves = listed _ _ _ _ _ _ _

  pub lent_notes : ((lent c gu ug sg gs a r notes).notes ≡ (old notes)) × ((lent c gu ug sg gs a r notes).noted ≡ (new notes))
  lent_notes = (refl, refl)

  pub quiet_table : Lists (quiet c gu ug sg gs a r).table c
      (old gu) (old ug) (old sg) (old gs) (old a) (old r)
  quiet_table = listed _ _ _ _ _ _ _

  pub quiet_leaves : Lists ((quiet c gu ug sg gs a r).leaves d) d
      (new gu) (new ug) (new sg) (new gs) (new a) (new r)
  quiet_leaves = listed _ _ _ _ _ _ _

pub given_table : (c : Counts) (gu ug sg gs a r : List ℕ) → Lists (given c gu ug sg gs a r) c gu ug sg gs a r
given_table c gu ug sg gs a r = listed _ _ _ _ _ _ _
