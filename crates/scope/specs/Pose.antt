-- Pose (document 01, `solver_from_user_lits`): literal by literal, Map of the user and Grant of its global; the sign stays.
use Rattle.std.specs.Prelude.{ℕ, ◌+◌, Bool, ◌&&◌, ◌||◌, not, List, [], ◌∷◌, eqb, ltb, leb, length, get_or}
use Rattle.base.specs.Bounded.{count, any_of}
use Rattle.base.specs.Answer.{accepted}
use Rattle.scope.specs.Literals.{code_of, index_of, sign_of}
use Rattle.scope.specs.Table.{Table, undeleted}
use Rattle.scope.specs.Sound.{soundb}
use Rattle.base.specs.Choice.{pick}
use Rattle.scope.specs.Outcome.{Result, ◌then◌, giving, each, Outcome, unless, short}
use Rattle.scope.specs.Map.{map_user, unsampled}
use Rattle.scope.specs.Grant.{grant}

-- one user literal: its solver literal
unfoldable pub pose_one : ℕ → Table → Result ℕ
pose_one c t = giving (λ s. code_of s (sign_of c)) (map_user (index_of c) t then grant)

unfoldable pub pose : List ℕ → Table → Result (List ℕ)
pose lits t = each (length lits) (λ i s. giving (λ c. c ∷ []) (pose_one (get_or lits i 0) s)) t

-- ---- refusals

-- User u is to be mapped: it is unmapped, and named, or from the watermark up and below one that is named.
unfoldable pub wanted : Table → List ℕ → ℕ → Bool
wanted t lits u =
    eqb (get_or t.global_from_user u 0) 0
    && (any_of (λ c. eqb (index_of c) u) lits || (leb t.counts.user u && any_of (λ c. ltb u (index_of c)) lits))

-- all distinct users to map, gaps included
unfoldable pub users_to_map : Table → List ℕ → ℕ
users_to_map t lits = count t.counts.capacity (wanted t lits)

-- 1; 3 by the capacity, or for more than 8,192 literals; 4; 5, each user that is to be mapped counted once, those in gaps too; 2.
unfoldable pub pose_refusal : Table → List ℕ → Bool → ℕ → ℕ → ℕ
pose_refusal t lits sampling outs room =
    pick (not (soundb t)) 1
    (pick (ltb 8192 (length lits) || any_of (λ c. leb t.counts.capacity (index_of c)) lits) 3
    (pick (sampling && any_of (λ c. unsampled t (index_of c)) lits) 4
    (pick (ltb t.counts.capacity (undeleted t + users_to_map t lits)) 5
    (pick (ltb outs (length lits) || short room (pose lits t).notes) 2 0))))

-- The solver literals are filled; the answer is their number and the count of notes.
unfoldable pub pose_of : Table → List ℕ → Bool → ℕ → ℕ → Outcome
pose_of t lits sampling outs room =
    let x = pose lits t in
    unless (pose_refusal t lits sampling outs room) t
    (record { answer = accepted (length lits ∷ length x.notes ∷ []); table = x.table; notes = x.notes; words = x.value; more = []; bytes = [] })
