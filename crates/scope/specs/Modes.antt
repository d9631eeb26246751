-- Set mode and Observe (document 01, `set_sampling_mode`, `observe_internal_vars`).
use Rattle.std.specs.Prelude.{ℕ, ◌-◌, Bool, ◌&&◌, ◌||◌, not, List, [], ◌∷◌, eqb, ltb, leb, length, get_or}
use Rattle.base.specs.Bounded.{all_below}
use Rattle.base.specs.Answer.{accepted}
use Rattle.scope.specs.declared.SamplingMode.{SamplingMode}
use Rattle.scope.specs.declared.SamplingMode.TheVariants.{Sample, Witness, Hide}
use Rattle.scope.specs.Table.{Table, mode_of, isolated_of, assumed_of, is_deleted, record_of, with_mode, give_user, take_user, put_record, drop_global}
use Rattle.scope.specs.Sound.{soundb}
use Rattle.scope.specs.Notes.{user+, user-, deletes, changes}
use Rattle.base.specs.Choice.{pick}
use Rattle.scope.specs.Outcome.{Result, stay, choose, joined, each, Outcome, unless, short, noting}
use Rattle.scope.specs.Map.{next_user}

abbrev pub mode_number : SamplingMode → ℕ
mode_number Sample = 0
mode_number Witness = 1
mode_number Hide = 2

-- An isolated global that has lost both its names is deleted, with note D.
unfoldable pub is_unused : Table → ℕ → Bool
is_unused t g = eqb (get_or t.user_from_global g 0) 0 && (eqb (get_or t.solver_from_global g 0) 0 && eqb (isolated_of (record_of t g)) 1)

unfoldable pub delete_if_unused : ℕ → Table → Result (List ℕ)
delete_if_unused g t =
    choose (is_unused t g) (record { value = []; table = drop_global g t; notes = deletes g ∷ [] }) (stay [] t)

-- from Hide to mode m: C, then U with the least unmapped user index, which is returned
unfoldable pub show : ℕ → ℕ → Table → Result (List ℕ)
show g m t =
    record {
      value = next_user t ∷ [];
      table = give_user g (next_user t) (with_mode (record_of t g) m) t;
      notes = changes g (eqb m 0) ∷ user+ g (next_user t) ∷ [];
    }

-- to Hide: U(g,-)
unfoldable pub hide : ℕ → Table → Result (List ℕ)
hide g t =
    joined (record { value = []; table = take_user g (get_or t.user_from_global g 0 - 1) (with_mode (record_of t g) 2) t; notes = user- g ∷ [] })
    (delete_if_unused g)

-- between Sample and Witness: C
unfoldable pub change : ℕ → ℕ → Table → Result (List ℕ)
change g m t = record { value = []; table = put_record g (with_mode (record_of t g) m) t; notes = changes g (eqb m 0) ∷ [] }

-- Nothing where the mode stays. To Hide the user goes; from Hide one comes; between the other two only C is noted.
unfoldable pub set_mode : ℕ → ℕ → Table → Result (List ℕ)
set_mode g m t =
    choose (eqb (mode_of (record_of t g)) m) (stay [] t)
    (choose (eqb m 2) (hide g t)
    (choose (eqb (mode_of (record_of t g)) 2) (show g m t) (change g m t)))

-- 1; 3 for a global that was never used; 6 for a deleted one; 7 for an assumed one, also where the mode stays; 2.
unfoldable pub set_mode_refusal : Table → ℕ → SamplingMode → ℕ → ℕ
set_mode_refusal t g m room =
    pick (not (soundb t)) 1
    (pick (leb t.counts.global g) 3
    (pick (is_deleted (record_of t g)) 6
    (pick (eqb (assumed_of (record_of t g)) 1) 7
    (pick (short room (set_mode g (mode_number m) t).notes) 2 0))))

-- The answer is the user granted, if one was, and the count of notes.
unfoldable pub set_mode_of : Table → ℕ → SamplingMode → ℕ → Outcome
set_mode_of t g m room = unless (set_mode_refusal t g m room) t (noting (λ us. us) (set_mode g (mode_number m) t))

-- ---- Observe: each hidden global, the least first, becomes a witness, and the users that they get are answered.

unfoldable pub is_hidden : ℕ → Bool
is_hidden r = ltb r 36 && eqb (mode_of r) 2

unfoldable pub observe_one : ℕ → Table → Result (List ℕ)
observe_one g t = choose (is_hidden (record_of t g)) (show g 1 t) (stay [] t)

unfoldable pub observe : Table → Result (List ℕ)
observe t = each t.counts.global observe_one t

-- 1; 7 where a hidden global is assumed; 2.
unfoldable pub observe_refusal : Table → ℕ → ℕ → ℕ
observe_refusal t outs room =
    pick (not (soundb t)) 1
    (pick (not (all_below t.counts.global (λ g. not (is_hidden (record_of t g) && eqb (assumed_of (record_of t g)) 1)))) 7
    (pick (ltb outs (length (observe t).value) || short room (observe t).notes) 2 0))

-- The users are filled; the answer is their number and the count of notes.
unfoldable pub observe_of : Table → ℕ → ℕ → Outcome
observe_of t outs room =
    let x = observe t in
    unless (observe_refusal t outs room) t
    (record { answer = accepted (length x.value ∷ length x.notes ∷ []); table = x.table; notes = x.notes; words = x.value; more = []; bytes = [] })
