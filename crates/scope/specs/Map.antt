-- Map a user, and New user (document 01, `global_from_user`, `new_user_var`).
use Rattle.std.specs.Prelude.{ℕ, ◌+◌, ◌-◌, Bool, false, ◌&&◌, ◌||◌, not, List, [], ◌∷◌, eqb, ltb, leb, get_or}
use Rattle.base.specs.Choice.{pick}
use Rattle.base.specs.Bounded.{least}
use Rattle.scope.specs.Table.{Table, word, mode_of, record_of, is_deleted, user_record, least_free, undeleted, give_user}
use Rattle.scope.specs.Sound.{soundb}
use Rattle.scope.specs.Notes.{user+}
use Rattle.scope.specs.Outcome.{Result, stay, ◌then◌, giving, each, Outcome, unless, short, noting}

-- Which global a new user gets: the one of its own index, where that is deleted or the next never used; otherwise the deleted one of least
-- index; otherwise the next never used.
unfoldable pub global_for : Table → ℕ → ℕ
global_for t u =
    pick (eqb u t.counts.global || is_deleted (record_of t u)) u (least t.counts.global (λ g. is_deleted (record_of t g)))

-- An unmapped user gets a global. Its record becomes 9; note U.
unfoldable pub map_one : ℕ → Table → Result ℕ
map_one u t =
    let g = global_for t u in
    record { value = g; table = give_user g u user_record t; notes = user+ g u ∷ [] }

-- The n indices from the user watermark up are mapped.
unfoldable pub fill_gap : ℕ → Table → Result (List ℕ)
fill_gap n t = each n (λ i s. giving (λ g. g ∷ []) (map_one (t.counts.user + i) s)) t

-- A user that has a global keeps it. Before any other user is mapped, so are all below it that were never used.
unfoldable pub map_user : ℕ → Table → Result ℕ
map_user u t = word (fill_gap (u - t.counts.user) t then (λ gs. map_one u)) (λ g. stay g t) (get_or t.global_from_user u 0)

-- New user maps the least unmapped user index.
unfoldable pub next_user : Table → ℕ
next_user t = least_free t.global_from_user t.counts.user

unfoldable pub new_user : Table → Result (List ℕ)
new_user t = giving (λ g. next_user t ∷ g ∷ []) (map_user (next_user t) t)

-- ---- refusals

-- how many users are to be mapped for u, the gap included
unfoldable pub to_map : Table → ℕ → ℕ
to_map t u = word (u - t.counts.user + 1) (λ g. 0) (get_or t.global_from_user u 0)

-- the user has a global, and that is not Sample
unfoldable pub unsampled : Table → ℕ → Bool
unsampled t u = word false (λ g. not (eqb (mode_of (record_of t g)) 0)) (get_or t.global_from_user u 0)

-- 1; 3 by the capacity; 4, where sampling is asked for and the user has a global of another mode; 5, where the free globals are too few; 2.
unfoldable pub map_refusal : Table → ℕ → Bool → ℕ → ℕ
map_refusal t u sampling room =
    pick (not (soundb t)) 1
    (pick (leb t.counts.capacity u) 3
    (pick (sampling && unsampled t u) 4
    (pick (ltb t.counts.capacity (undeleted t + to_map t u)) 5
    (pick (short room (map_user u t).notes) 2 0))))

-- The answer is the global and the count of notes.
unfoldable pub map_of : Table → ℕ → Bool → ℕ → Outcome
map_of t u sampling room = unless (map_refusal t u sampling room) t (noting (λ g. g ∷ []) (map_user u t))

-- 1, 5, 2
unfoldable pub new_user_refusal : Table → ℕ → ℕ
new_user_refusal t room =
    pick (not (soundb t)) 1
    (pick (ltb t.counts.capacity (undeleted t + 1)) 5
    (pick (short room (new_user t).notes) 2 0))

-- The answer is the user, its global and the count of notes.
unfoldable pub new_user_of : Table → ℕ → Outcome
new_user_of t room = unless (new_user_refusal t room) t (noting (λ vs. vs) (new_user t))
