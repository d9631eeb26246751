-- The calls of the writer and the reader that take no table, with a format and a kind by number.
use Rattle.std.specs.Prelude.{ℕ, List, []}
use Rattle.base.specs.Answer.{Answer, refused}
use Rattle.drat.specs.Writing.{Writing, write_clause_of}
use Rattle.drat.specs.Listed.{write_all_of}
use Rattle.drat.specs.Filled.{Filling, refusing, read_of, first_token, first_of}
use Rattle.numbers.specs.Numbers.{when_known, format_for, kind_for}

abbrev pub no_writing : Writing
no_writing = record { answer = refused 4294967295 []; bytes = [] }

unfoldable pub write_clause_at : ℕ → ℕ → List ℕ → ℕ → ℕ → ℕ → ℕ → Writing
write_clause_at format kind buf a b room at =
    when_known (format_for format) no_writing (λ f. when_known (kind_for kind) no_writing (λ k. write_clause_of f k buf a b room at))

unfoldable pub write_proof_at : ℕ → List ℕ → List ℕ → List ℕ → ℕ → Writing
write_proof_at format codes es ks room = when_known (format_for format) no_writing (λ f. write_all_of f codes es ks room)

unfoldable pub read_at : ℕ → List ℕ → ℕ → ℕ → ℕ → Filling
read_at format s a b c = when_known (format_for format) (refusing 4294967295 []) (λ f. read_of f s a b c)

unfoldable pub first_at : ℕ → List ℕ → Answer
first_at format s = when_known (format_for format) (refused 4294967295 []) (λ f. first_of f s)

-- and where it stands, or with 13 its first token
unfoldable pub first_place_at : ℕ → List ℕ → ℕ
first_place_at format s = when_known (format_for format) 0 (λ f. first_token f s)
