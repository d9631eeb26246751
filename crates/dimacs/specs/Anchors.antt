-- Anchors: small cases of the two calls, each with what order 4 says of it in bytes and numbers. One theorem holds over all of them
-- (`anchored`, proofs/Anchored.antt). Nothing on the right goes through a definition that a row is about.
use Rattle.std.specs.Prelude.{ℕ, ◌≡◌, List, [], ◌∷◌}
use Rattle.base.specs.Answer.{Answer, accepted, refused}
use Rattle.drat.specs.Writing.{Writing}
use Rattle.dimacs.specs.Calls.{CnfFilling, write_cnf_of, read_cnf_of, cnf_read}
use Rattle.dimacs.specs.declared.CnfError.TheVariants.{WrongLine, Room}
use Rattle.std.specs.Prelude.{Ok, Err}
use Rattle.dimacs.specs.Calls.{cnf_size}

-- What is looked at: an answer, what Read CNF fills, what Write CNF fills.
pub data CnfSeen : Type 0 where
  answer : Answer → CnfSeen
  filling : CnfFilling → CnfSeen
  writing : Writing → CnfSeen

-- what the definitions give, and what order 4 says
pub record CnfRow : Type 0 where
  pub gives : CnfSeen
  pub says : CnfSeen

-- In every row they are the same.
abbrev pub Agree : List CnfRow → Type 0
Agree [] = Unit {0}
Agree (r ∷ rows) = (r.gives ≡ r.says) × Agree rows

infix 80 ◌is◌
abbrev pub ◌is◌ : CnfSeen → CnfSeen → CnfRow
x is y = record { gives = x; says = y }

abbrev pub filled : Answer → List ℕ → List ℕ → CnfSeen
filled a cs es = filling (record { answer = a; codes = cs; ends = es })

abbrev pub puts : Answer → List ℕ → CnfSeen
puts a bs = writing (record { answer = a; bytes = bs })

-- p cnf 3 2, 1 -2 0, 3 0
abbrev pub two : List ℕ
two = 112 ∷ 32 ∷ 99 ∷ 110 ∷ 102 ∷ 32 ∷ 51 ∷ 32 ∷ 50 ∷ 10 ∷ 49 ∷ 32 ∷ 45 ∷ 50 ∷ 32 ∷ 48 ∷ 10 ∷ 51 ∷ 32 ∷ 48 ∷ 10 ∷ []

-- Write CNF, of literal codes and the clauses' ends among them, into so much room: 3, 2.
abbrev pub writes : List CnfRow
writes =
    -- no clauses, and empty ones: without a literal V is 0
    writing (write_cnf_of [] [] 10) is puts (accepted (10 ∷ [])) (112 ∷ 32 ∷ 99 ∷ 110 ∷ 102 ∷ 32 ∷ 48 ∷ 32 ∷ 48 ∷ 10 ∷ [])
    ∷ writing (write_cnf_of [] (0 ∷ []) 12) is puts (accepted (12 ∷ [])) (112 ∷ 32 ∷ 99 ∷ 110 ∷ 102 ∷ 32 ∷ 48 ∷ 32 ∷ 49 ∷ 10 ∷ 48 ∷ 10 ∷ [])
    ∷ writing (write_cnf_of [] (0 ∷ 0 ∷ 0 ∷ []) 16)
    is puts (accepted (16 ∷ [])) (112 ∷ 32 ∷ 99 ∷ 110 ∷ 102 ∷ 32 ∷ 48 ∷ 32 ∷ 51 ∷ 10 ∷ 48 ∷ 10 ∷ 48 ∷ 10 ∷ 48 ∷ 10 ∷ [])
    -- signs, in just enough room and in more; an empty clause between two
    ∷ writing (write_cnf_of (0 ∷ 3 ∷ 4 ∷ []) (2 ∷ 3 ∷ []) 21)
    is puts (accepted (21 ∷ [])) (112 ∷ 32 ∷ 99 ∷ 110 ∷ 102 ∷ 32 ∷ 51 ∷ 32 ∷ 50 ∷ 10 ∷ 49 ∷ 32 ∷ 45 ∷ 50 ∷ 32 ∷ 48 ∷ 10 ∷ 51 ∷ 32 ∷ 48 ∷ 10 ∷ [])
    ∷ writing (write_cnf_of (0 ∷ 3 ∷ 4 ∷ []) (2 ∷ 3 ∷ []) 99)
    is puts (accepted (21 ∷ [])) (112 ∷ 32 ∷ 99 ∷ 110 ∷ 102 ∷ 32 ∷ 51 ∷ 32 ∷ 50 ∷ 10 ∷ 49 ∷ 32 ∷ 45 ∷ 50 ∷ 32 ∷ 48 ∷ 10 ∷ 51 ∷ 32 ∷ 48 ∷ 10 ∷ [])
    ∷ writing (write_cnf_of (0 ∷ 3 ∷ []) (1 ∷ 1 ∷ 2 ∷ []) 21)
    is puts (accepted (21 ∷ [])) (112 ∷ 32 ∷ 99 ∷ 110 ∷ 102 ∷ 32 ∷ 50 ∷ 32 ∷ 51 ∷ 10 ∷ 49 ∷ 32 ∷ 48 ∷ 10 ∷ 48 ∷ 10 ∷ 45 ∷ 50 ∷ 32 ∷ 48 ∷ 10 ∷ [])
    -- V of a negative literal; V is no number of literals or indices; the largest stands first; more than nine clauses
    ∷ writing (write_cnf_of (5 ∷ []) (1 ∷ []) 15) is puts (accepted (15 ∷ [])) (112 ∷ 32 ∷ 99 ∷ 110 ∷ 102 ∷ 32 ∷ 51 ∷ 32 ∷ 49 ∷ 10 ∷ 45 ∷ 51 ∷ 32 ∷ 48 ∷ 10 ∷ [])
    ∷ writing (write_cnf_of (8 ∷ 8 ∷ 8 ∷ []) (3 ∷ []) 18)
    is puts (accepted (18 ∷ [])) (112 ∷ 32 ∷ 99 ∷ 110 ∷ 102 ∷ 32 ∷ 53 ∷ 32 ∷ 49 ∷ 10 ∷ 53 ∷ 32 ∷ 53 ∷ 32 ∷ 53 ∷ 32 ∷ 48 ∷ 10 ∷ [])
    ∷ writing (write_cnf_of (19 ∷ 0 ∷ []) (2 ∷ []) 19)
    is puts (accepted (19 ∷ [])) (112 ∷ 32 ∷ 99 ∷ 110 ∷ 102 ∷ 32 ∷ 49 ∷ 48 ∷ 32 ∷ 49 ∷ 10 ∷ 45 ∷ 49 ∷ 48 ∷ 32 ∷ 49 ∷ 32 ∷ 48 ∷ 10 ∷ [])
    ∷ writing (write_cnf_of [] (0 ∷ 0 ∷ 0 ∷ 0 ∷ 0 ∷ 0 ∷ 0 ∷ 0 ∷ 0 ∷ 0 ∷ []) 31)
    is puts (accepted (31 ∷ [])) (112 ∷ 32 ∷ 99 ∷ 110 ∷ 102 ∷ 32 ∷ 48 ∷ 32 ∷ 49 ∷ 48 ∷ 10 ∷ 48 ∷ 10 ∷ 48 ∷ 10 ∷ 48 ∷ 10 ∷ 48 ∷ 10 ∷ 48 ∷ 10 ∷ 48 ∷ 10 ∷ 48 ∷
    10 ∷ 48 ∷ 10 ∷ 48 ∷ 10 ∷ 48 ∷ 10 ∷ [])
    -- index 4,095
    ∷ writing (write_cnf_of (8191 ∷ 8190 ∷ []) (1 ∷ 2 ∷ []) 28)
    is puts (accepted (28 ∷ [])) (112 ∷ 32 ∷ 99 ∷ 110 ∷ 102 ∷ 32 ∷ 52 ∷ 48 ∷ 57 ∷ 54 ∷ 32 ∷ 50 ∷ 10 ∷ 45 ∷ 52 ∷ 48 ∷ 57 ∷ 54 ∷ 32 ∷ 48 ∷ 10 ∷ 52 ∷ 48 ∷ 57 ∷
    54 ∷ 32 ∷ 48 ∷ 10 ∷ [])
    ∷ []

-- What Write CNF refuses.
abbrev pub unwritten : List CnfRow
unwritten =
    -- index 4,096
    writing (write_cnf_of (8192 ∷ []) (1 ∷ []) 99) is puts (refused 3 []) []
    ∷ writing (write_cnf_of (8193 ∷ []) (1 ∷ []) 99) is puts (refused 3 []) []
    ∷ writing (write_cnf_of (0 ∷ 8192 ∷ 2 ∷ []) (3 ∷ []) 99) is puts (refused 3 []) []
    -- ends that fall, pass the last literal, fall back to it, leave it out; none for a literal; one for no literal
    ∷ writing (write_cnf_of (0 ∷ 2 ∷ 4 ∷ []) (2 ∷ 1 ∷ 3 ∷ []) 99) is puts (refused 3 []) []
    ∷ writing (write_cnf_of (0 ∷ 2 ∷ 4 ∷ []) (2 ∷ 4 ∷ []) 99) is puts (refused 3 []) []
    ∷ writing (write_cnf_of (0 ∷ 2 ∷ 4 ∷ []) (4 ∷ 3 ∷ []) 99) is puts (refused 3 []) []
    ∷ writing (write_cnf_of (0 ∷ 2 ∷ 4 ∷ []) (1 ∷ 2 ∷ []) 99) is puts (refused 3 []) []
    ∷ writing (write_cnf_of (0 ∷ []) (0 ∷ []) 99) is puts (refused 3 []) []
    ∷ writing (write_cnf_of (0 ∷ []) [] 99) is puts (refused 3 []) []
    ∷ writing (write_cnf_of [] (1 ∷ []) 99) is puts (refused 3 []) []
    -- a byte short: 2; 3 before 2
    ∷ writing (write_cnf_of (0 ∷ 3 ∷ 4 ∷ []) (2 ∷ 3 ∷ []) 20) is puts (refused 2 []) []
    ∷ writing (write_cnf_of [] [] 9) is puts (refused 2 []) []
    ∷ writing (write_cnf_of [] [] 0) is puts (refused 2 []) []
    ∷ writing (write_cnf_of (8192 ∷ []) (1 ∷ []) 0) is puts (refused 3 []) []
    ∷ writing (write_cnf_of (0 ∷ []) [] 0) is puts (refused 3 []) []
    ∷ []

-- Read CNF, with so many words for codes and for ends: 17 with the place, 2. V, literals, clauses; codes, ends.
abbrev pub files : List CnfRow
files =
    -- with just enough room, and with more; an output that is too short
    filling (read_cnf_of two 3 2) is filled (accepted (3 ∷ 3 ∷ 2 ∷ [])) (0 ∷ 3 ∷ 4 ∷ []) (2 ∷ 3 ∷ [])
    ∷ filling (read_cnf_of two 9 9) is filled (accepted (3 ∷ 3 ∷ 2 ∷ [])) (0 ∷ 3 ∷ 4 ∷ []) (2 ∷ 3 ∷ [])
    ∷ filling (read_cnf_of two 2 2) is filled (refused 2 []) [] []
    ∷ filling (read_cnf_of two 3 1) is filled (refused 2 []) [] []
    -- no clauses; empty ones; V without any literal, and above the largest magnitude; a literal twice
    ∷ filling (read_cnf_of (112 ∷ 32 ∷ 99 ∷ 110 ∷ 102 ∷ 32 ∷ 48 ∷ 32 ∷ 48 ∷ 10 ∷ []) 0 0) is filled (accepted (0 ∷ 0 ∷ 0 ∷ [])) [] []
    ∷ filling (read_cnf_of (112 ∷ 32 ∷ 99 ∷ 110 ∷ 102 ∷ 32 ∷ 48 ∷ 32 ∷ 50 ∷ 10 ∷ 48 ∷ 10 ∷ 48 ∷ 10 ∷ []) 0 2)
    is filled (accepted (0 ∷ 0 ∷ 2 ∷ [])) [] (0 ∷ 0 ∷ [])
    ∷ filling (read_cnf_of (112 ∷ 32 ∷ 99 ∷ 110 ∷ 102 ∷ 32 ∷ 52 ∷ 48 ∷ 57 ∷ 54 ∷ 32 ∷ 48 ∷ 10 ∷ []) 0 0) is filled (accepted (4096 ∷ 0 ∷ 0 ∷ [])) [] []
    ∷ filling (read_cnf_of (112 ∷ 32 ∷ 99 ∷ 110 ∷ 102 ∷ 32 ∷ 55 ∷ 32 ∷ 49 ∷ 10 ∷ 45 ∷ 50 ∷ 32 ∷ 50 ∷ 32 ∷ 50 ∷ 32 ∷ 48 ∷ 10 ∷ []) 3 1)
    is filled (accepted (7 ∷ 3 ∷ 1 ∷ [])) (3 ∷ 2 ∷ 2 ∷ []) (3 ∷ [])
    ∷ filling (read_cnf_of (112 ∷ 32 ∷ 99 ∷ 110 ∷ 102 ∷ 32 ∷ 52 ∷ 48 ∷ 57 ∷ 54 ∷ 32 ∷ 49 ∷ 10 ∷ 52 ∷ 48 ∷ 57 ∷ 54 ∷ 32 ∷ 45 ∷ 52 ∷ 48 ∷ 57 ∷ 54 ∷ 32 ∷ 48 ∷
    10 ∷ []) 2 1)
    is filled (accepted (4096 ∷ 2 ∷ 1 ∷ [])) (8190 ∷ 8191 ∷ []) (2 ∷ [])
    -- lines that start with `c` before the header, `cnf 1` and a lone `c` among them; after the header such a line is wrong
    ∷ filling (read_cnf_of (99 ∷ 32 ∷ 120 ∷ 10 ∷ 99 ∷ 110 ∷ 102 ∷ 32 ∷ 49 ∷ 10 ∷ 99 ∷ 10 ∷ 112 ∷ 32 ∷ 99 ∷ 110 ∷ 102 ∷ 32 ∷ 49 ∷ 32 ∷ 49 ∷ 10 ∷ 49 ∷ 32 ∷ 48 ∷
    10 ∷ []) 1 1)
    is filled (accepted (1 ∷ 1 ∷ 1 ∷ [])) (0 ∷ []) (1 ∷ [])
    ∷ filling (read_cnf_of (99 ∷ 112 ∷ 32 ∷ 99 ∷ 110 ∷ 102 ∷ 32 ∷ 48 ∷ 32 ∷ 48 ∷ 10 ∷ 112 ∷ 32 ∷ 99 ∷ 110 ∷ 102 ∷ 32 ∷ 48 ∷ 32 ∷ 48 ∷ 10 ∷ []) 0 0)
    is filled (accepted (0 ∷ 0 ∷ 0 ∷ [])) [] []
    ∷ filling (read_cnf_of (112 ∷ 32 ∷ 99 ∷ 110 ∷ 102 ∷ 32 ∷ 49 ∷ 32 ∷ 49 ∷ 10 ∷ 99 ∷ 10 ∷ 49 ∷ 32 ∷ 48 ∷ 10 ∷ []) 9 9) is filled (refused 17 (10 ∷ [])) [] []
    ∷ filling (read_cnf_of (112 ∷ 32 ∷ 99 ∷ 110 ∷ 102 ∷ 32 ∷ 49 ∷ 32 ∷ 49 ∷ 10 ∷ 49 ∷ 32 ∷ 48 ∷ 10 ∷ 99 ∷ 10 ∷ []) 9 9) is filled (refused 17 (14 ∷ [])) [] []
    -- a comment of any bytes but the line feed; a count of two digits; a carriage return closes no comment
    ∷ filling (read_cnf_of (99 ∷ 0 ∷ 255 ∷ 10 ∷ 112 ∷ 32 ∷ 99 ∷ 110 ∷ 102 ∷ 32 ∷ 48 ∷ 32 ∷ 48 ∷ 10 ∷ []) 0 0) is filled (accepted (0 ∷ 0 ∷ 0 ∷ [])) [] []
    ∷ filling (read_cnf_of (112 ∷ 32 ∷ 99 ∷ 110 ∷ 102 ∷ 32 ∷ 48 ∷ 32 ∷ 49 ∷ 48 ∷ 10 ∷ 48 ∷ 10 ∷ 48 ∷ 10 ∷ 48 ∷ 10 ∷ 48 ∷ 10 ∷ 48 ∷ 10 ∷ 48 ∷ 10 ∷ 48 ∷ 10 ∷ 48 ∷
    10 ∷ 48 ∷ 10 ∷ 48 ∷ 10 ∷ []) 0 10)
    is filled (accepted (0 ∷ 0 ∷ 10 ∷ [])) [] (0 ∷ 0 ∷ 0 ∷ 0 ∷ 0 ∷ 0 ∷ 0 ∷ 0 ∷ 0 ∷ 0 ∷ [])
    ∷ filling (read_cnf_of (99 ∷ 13 ∷ 112 ∷ 32 ∷ 99 ∷ 110 ∷ 102 ∷ 32 ∷ 48 ∷ 32 ∷ 48 ∷ 10 ∷ []) 9 9) is filled (refused 17 (12 ∷ [])) [] []
    ∷ []

-- A header whose numbers are wrong, at its place.
abbrev pub headers : List CnfRow
headers =
    -- V above 4,096, without a number, leading zeros, signs
    filling (read_cnf_of (99 ∷ 10 ∷ 112 ∷ 32 ∷ 99 ∷ 110 ∷ 102 ∷ 32 ∷ 52 ∷ 48 ∷ 57 ∷ 55 ∷ 32 ∷ 48 ∷ 10 ∷ []) 9 9) is filled (refused 17 (2 ∷ [])) [] []
    ∷ filling (read_cnf_of (99 ∷ 10 ∷ 112 ∷ 32 ∷ 99 ∷ 110 ∷ 102 ∷ 32 ∷ 52 ∷ 48 ∷ 57 ∷ 54 ∷ 48 ∷ 32 ∷ 48 ∷ 10 ∷ []) 9 9) is filled (refused 17 (2 ∷ [])) [] []
    ∷ filling (read_cnf_of (99 ∷ 10 ∷ 112 ∷ 32 ∷ 99 ∷ 110 ∷ 102 ∷ 32 ∷ 49 ∷ 32 ∷ 10 ∷ []) 9 9) is filled (refused 17 (2 ∷ [])) [] []
    ∷ filling (read_cnf_of (99 ∷ 10 ∷ 112 ∷ 32 ∷ 99 ∷ 110 ∷ 102 ∷ 32 ∷ 49 ∷ 10 ∷ []) 9 9) is filled (refused 17 (2 ∷ [])) [] []
    ∷ filling (read_cnf_of (99 ∷ 10 ∷ 112 ∷ 32 ∷ 99 ∷ 110 ∷ 102 ∷ 32 ∷ 32 ∷ 10 ∷ []) 9 9) is filled (refused 17 (2 ∷ [])) [] []
    ∷ filling (read_cnf_of (99 ∷ 10 ∷ 112 ∷ 32 ∷ 99 ∷ 110 ∷ 102 ∷ 32 ∷ 48 ∷ 49 ∷ 32 ∷ 48 ∷ 10 ∷ []) 9 9) is filled (refused 17 (2 ∷ [])) [] []
    ∷ filling (read_cnf_of (99 ∷ 10 ∷ 112 ∷ 32 ∷ 99 ∷ 110 ∷ 102 ∷ 32 ∷ 48 ∷ 48 ∷ 32 ∷ 48 ∷ 10 ∷ []) 9 9) is filled (refused 17 (2 ∷ [])) [] []
    ∷ filling (read_cnf_of (99 ∷ 10 ∷ 112 ∷ 32 ∷ 99 ∷ 110 ∷ 102 ∷ 32 ∷ 48 ∷ 32 ∷ 48 ∷ 48 ∷ 10 ∷ []) 9 9) is filled (refused 17 (2 ∷ [])) [] []
    ∷ filling (read_cnf_of (99 ∷ 10 ∷ 112 ∷ 32 ∷ 99 ∷ 110 ∷ 102 ∷ 32 ∷ 48 ∷ 32 ∷ 48 ∷ 49 ∷ 10 ∷ []) 9 9) is filled (refused 17 (2 ∷ [])) [] []
    ∷ filling (read_cnf_of (99 ∷ 10 ∷ 112 ∷ 32 ∷ 99 ∷ 110 ∷ 102 ∷ 32 ∷ 45 ∷ 49 ∷ 32 ∷ 48 ∷ 10 ∷ []) 9 9) is filled (refused 17 (2 ∷ [])) [] []
    ∷ filling (read_cnf_of (99 ∷ 10 ∷ 112 ∷ 32 ∷ 99 ∷ 110 ∷ 102 ∷ 32 ∷ 49 ∷ 32 ∷ 43 ∷ 48 ∷ 10 ∷ []) 9 9) is filled (refused 17 (2 ∷ [])) [] []
    -- V that is 1 after 2^32 or 2^64 is taken off
    ∷ filling (read_cnf_of (112 ∷ 32 ∷ 99 ∷ 110 ∷ 102 ∷ 32 ∷ 52 ∷ 50 ∷ 57 ∷ 52 ∷ 57 ∷ 54 ∷ 55 ∷ 50 ∷ 57 ∷ 55 ∷ 32 ∷ 48 ∷ 10 ∷ []) 9 9)
    is filled (refused 17 (0 ∷ [])) [] []
    ∷ filling (read_cnf_of (112 ∷ 32 ∷ 99 ∷ 110 ∷ 102 ∷ 32 ∷ 49 ∷ 56 ∷ 52 ∷ 52 ∷ 54 ∷ 55 ∷ 52 ∷ 52 ∷ 48 ∷ 55 ∷ 51 ∷ 55 ∷ 48 ∷ 57 ∷ 53 ∷ 53 ∷ 49 ∷ 54 ∷ 49 ∷ 55 ∷
    32 ∷ 48 ∷ 10 ∷ []) 9 9)
    is filled (refused 17 (0 ∷ [])) [] []
    ∷ []

-- A header of another form, at its place.
abbrev pub forms : List CnfRow
forms =
    -- two blanks, a blank at the end or in front, a carriage return, no line feed, other words
    filling (read_cnf_of (99 ∷ 10 ∷ 112 ∷ 32 ∷ 99 ∷ 110 ∷ 102 ∷ 32 ∷ 49 ∷ 32 ∷ 32 ∷ 48 ∷ 10 ∷ []) 9 9) is filled (refused 17 (2 ∷ [])) [] []
    ∷ filling (read_cnf_of (99 ∷ 10 ∷ 112 ∷ 32 ∷ 32 ∷ 99 ∷ 110 ∷ 102 ∷ 32 ∷ 49 ∷ 32 ∷ 48 ∷ 10 ∷ []) 9 9) is filled (refused 17 (2 ∷ [])) [] []
    ∷ filling (read_cnf_of (99 ∷ 10 ∷ 112 ∷ 32 ∷ 99 ∷ 110 ∷ 102 ∷ 32 ∷ 49 ∷ 32 ∷ 48 ∷ 32 ∷ 10 ∷ []) 9 9) is filled (refused 17 (2 ∷ [])) [] []
    ∷ filling (read_cnf_of (99 ∷ 10 ∷ 32 ∷ 112 ∷ 32 ∷ 99 ∷ 110 ∷ 102 ∷ 32 ∷ 49 ∷ 32 ∷ 48 ∷ 10 ∷ []) 9 9) is filled (refused 17 (2 ∷ [])) [] []
    ∷ filling (read_cnf_of (99 ∷ 10 ∷ 112 ∷ 32 ∷ 99 ∷ 110 ∷ 102 ∷ 32 ∷ 49 ∷ 32 ∷ 48 ∷ 13 ∷ 10 ∷ []) 9 9) is filled (refused 17 (2 ∷ [])) [] []
    ∷ filling (read_cnf_of (99 ∷ 10 ∷ 112 ∷ 32 ∷ 99 ∷ 110 ∷ 102 ∷ 32 ∷ 49 ∷ 32 ∷ 48 ∷ []) 9 9) is filled (refused 17 (2 ∷ [])) [] []
    ∷ filling (read_cnf_of (99 ∷ 10 ∷ 112 ∷ 32 ∷ 100 ∷ 110 ∷ 102 ∷ 32 ∷ 49 ∷ 32 ∷ 48 ∷ 10 ∷ []) 9 9) is filled (refused 17 (2 ∷ [])) [] []
    ∷ filling (read_cnf_of (99 ∷ 10 ∷ 10 ∷ 112 ∷ 32 ∷ 99 ∷ 110 ∷ 102 ∷ 32 ∷ 49 ∷ 32 ∷ 48 ∷ 10 ∷ []) 9 9) is filled (refused 17 (2 ∷ [])) [] []
    ∷ filling (read_cnf_of (99 ∷ 10 ∷ 49 ∷ 32 ∷ 48 ∷ 10 ∷ []) 9 9) is filled (refused 17 (2 ∷ [])) [] []
    -- byte 0 for the line feed or for the blank; `C` opens no comment
    ∷ filling (read_cnf_of (112 ∷ 32 ∷ 99 ∷ 110 ∷ 102 ∷ 32 ∷ 48 ∷ 32 ∷ 48 ∷ 0 ∷ []) 9 9) is filled (refused 17 (0 ∷ [])) [] []
    ∷ filling (read_cnf_of (112 ∷ 32 ∷ 99 ∷ 110 ∷ 102 ∷ 32 ∷ 48 ∷ 0 ∷ 48 ∷ 10 ∷ []) 9 9) is filled (refused 17 (0 ∷ [])) [] []
    ∷ filling (read_cnf_of (67 ∷ 10 ∷ 112 ∷ 32 ∷ 99 ∷ 110 ∷ 102 ∷ 32 ∷ 48 ∷ 32 ∷ 48 ∷ 10 ∷ []) 9 9) is filled (refused 17 (0 ∷ [])) [] []
    ∷ []

-- A wrong line, at its start.
abbrev pub wrong_lines : List CnfRow
wrong_lines =
    -- a number above V, leading zeros, `-0`, two blanks, a blank in front, a carriage return, no line feed;
    -- an empty line, two clauses on a line, a clause on two lines, a delete
    filling (read_cnf_of (112 ∷ 32 ∷ 99 ∷ 110 ∷ 102 ∷ 32 ∷ 50 ∷ 32 ∷ 50 ∷ 10 ∷ 49 ∷ 32 ∷ 48 ∷ 10 ∷ 51 ∷ 32 ∷ 48 ∷ 10 ∷ []) 9 9)
    is filled (refused 17 (14 ∷ [])) [] []
    ∷ filling (read_cnf_of (112 ∷ 32 ∷ 99 ∷ 110 ∷ 102 ∷ 32 ∷ 50 ∷ 32 ∷ 50 ∷ 10 ∷ 49 ∷ 32 ∷ 48 ∷ 10 ∷ 45 ∷ 51 ∷ 32 ∷ 48 ∷ 10 ∷ []) 9 9)
    is filled (refused 17 (14 ∷ [])) [] []
    ∷ filling (read_cnf_of (112 ∷ 32 ∷ 99 ∷ 110 ∷ 102 ∷ 32 ∷ 48 ∷ 32 ∷ 49 ∷ 10 ∷ 49 ∷ 32 ∷ 48 ∷ 10 ∷ []) 9 9) is filled (refused 17 (10 ∷ [])) [] []
    ∷ filling (read_cnf_of (112 ∷ 32 ∷ 99 ∷ 110 ∷ 102 ∷ 32 ∷ 52 ∷ 48 ∷ 57 ∷ 54 ∷ 32 ∷ 50 ∷ 10 ∷ 49 ∷ 32 ∷ 48 ∷ 10 ∷ 52 ∷ 48 ∷ 57 ∷ 55 ∷ 32 ∷ 48 ∷ 10 ∷ []) 9 9)
    is filled (refused 17 (17 ∷ [])) [] []
    ∷ filling (read_cnf_of (112 ∷ 32 ∷ 99 ∷ 110 ∷ 102 ∷ 32 ∷ 50 ∷ 32 ∷ 50 ∷ 10 ∷ 49 ∷ 32 ∷ 48 ∷ 10 ∷ 48 ∷ 49 ∷ 32 ∷ 48 ∷ 10 ∷ []) 9 9)
    is filled (refused 17 (14 ∷ [])) [] []
    ∷ filling (read_cnf_of (112 ∷ 32 ∷ 99 ∷ 110 ∷ 102 ∷ 32 ∷ 50 ∷ 32 ∷ 50 ∷ 10 ∷ 49 ∷ 32 ∷ 48 ∷ 10 ∷ 45 ∷ 48 ∷ 32 ∷ 48 ∷ 10 ∷ []) 9 9)
    is filled (refused 17 (14 ∷ [])) [] []
    ∷ filling (read_cnf_of (112 ∷ 32 ∷ 99 ∷ 110 ∷ 102 ∷ 32 ∷ 50 ∷ 32 ∷ 50 ∷ 10 ∷ 49 ∷ 32 ∷ 48 ∷ 10 ∷ 49 ∷ 32 ∷ 32 ∷ 48 ∷ 10 ∷ []) 9 9)
    is filled (refused 17 (14 ∷ [])) [] []
    ∷ filling (read_cnf_of (112 ∷ 32 ∷ 99 ∷ 110 ∷ 102 ∷ 32 ∷ 50 ∷ 32 ∷ 50 ∷ 10 ∷ 49 ∷ 32 ∷ 48 ∷ 10 ∷ 32 ∷ 49 ∷ 32 ∷ 48 ∷ 10 ∷ []) 9 9)
    is filled (refused 17 (14 ∷ [])) [] []
    ∷ filling (read_cnf_of (112 ∷ 32 ∷ 99 ∷ 110 ∷ 102 ∷ 32 ∷ 50 ∷ 32 ∷ 50 ∷ 10 ∷ 49 ∷ 32 ∷ 48 ∷ 10 ∷ 50 ∷ 32 ∷ 48 ∷ 13 ∷ 10 ∷ []) 9 9)
    is filled (refused 17 (14 ∷ [])) [] []
    ∷ filling (read_cnf_of (112 ∷ 32 ∷ 99 ∷ 110 ∷ 102 ∷ 32 ∷ 50 ∷ 32 ∷ 50 ∷ 10 ∷ 49 ∷ 32 ∷ 48 ∷ 10 ∷ 50 ∷ 32 ∷ 48 ∷ []) 9 9)
    is filled (refused 17 (14 ∷ [])) [] []
    ∷ filling (read_cnf_of (112 ∷ 32 ∷ 99 ∷ 110 ∷ 102 ∷ 32 ∷ 50 ∷ 32 ∷ 50 ∷ 10 ∷ 49 ∷ 32 ∷ 48 ∷ 10 ∷ 50 ∷ []) 9 9) is filled (refused 17 (14 ∷ [])) [] []
    ∷ filling (read_cnf_of (112 ∷ 32 ∷ 99 ∷ 110 ∷ 102 ∷ 32 ∷ 50 ∷ 32 ∷ 50 ∷ 10 ∷ 49 ∷ 32 ∷ 48 ∷ 10 ∷ 50 ∷ 32 ∷ 48 ∷ 10 ∷ 10 ∷ []) 9 9)
    is filled (refused 17 (18 ∷ [])) [] []
    ∷ filling (read_cnf_of (112 ∷ 32 ∷ 99 ∷ 110 ∷ 102 ∷ 32 ∷ 50 ∷ 32 ∷ 50 ∷ 10 ∷ 49 ∷ 32 ∷ 48 ∷ 32 ∷ 50 ∷ 32 ∷ 48 ∷ 10 ∷ []) 9 9)
    is filled (refused 17 (10 ∷ [])) [] []
    ∷ filling (read_cnf_of (112 ∷ 32 ∷ 99 ∷ 110 ∷ 102 ∷ 32 ∷ 50 ∷ 32 ∷ 49 ∷ 10 ∷ 49 ∷ 10 ∷ 50 ∷ 32 ∷ 48 ∷ 10 ∷ []) 9 9) is filled (refused 17 (10 ∷ [])) [] []
    ∷ filling (read_cnf_of (112 ∷ 32 ∷ 99 ∷ 110 ∷ 102 ∷ 32 ∷ 50 ∷ 32 ∷ 49 ∷ 10 ∷ 100 ∷ 32 ∷ 49 ∷ 32 ∷ 48 ∷ 10 ∷ []) 9 9) is filled (refused 17 (10 ∷ [])) [] []
    ∷ []

-- A wrong byte or number in a line, and the file's end inside one, at the line's start.
abbrev pub wrong_bytes : List CnfRow
wrong_bytes =
    -- byte 0 or a tab for the blank; byte 177, which is 49 + 128; a plus; the file's end after a number's blank, with either count
    filling (read_cnf_of (112 ∷ 32 ∷ 99 ∷ 110 ∷ 102 ∷ 32 ∷ 49 ∷ 32 ∷ 49 ∷ 10 ∷ 49 ∷ 0 ∷ 48 ∷ 10 ∷ []) 9 9) is filled (refused 17 (10 ∷ [])) [] []
    ∷ filling (read_cnf_of (112 ∷ 32 ∷ 99 ∷ 110 ∷ 102 ∷ 32 ∷ 49 ∷ 32 ∷ 49 ∷ 10 ∷ 49 ∷ 9 ∷ 48 ∷ 10 ∷ []) 9 9) is filled (refused 17 (10 ∷ [])) [] []
    ∷ filling (read_cnf_of (112 ∷ 32 ∷ 99 ∷ 110 ∷ 102 ∷ 32 ∷ 49 ∷ 32 ∷ 49 ∷ 10 ∷ 177 ∷ 32 ∷ 48 ∷ 10 ∷ []) 9 9) is filled (refused 17 (10 ∷ [])) [] []
    ∷ filling (read_cnf_of (112 ∷ 32 ∷ 99 ∷ 110 ∷ 102 ∷ 32 ∷ 49 ∷ 32 ∷ 49 ∷ 10 ∷ 43 ∷ 49 ∷ 32 ∷ 48 ∷ 10 ∷ []) 9 9) is filled (refused 17 (10 ∷ [])) [] []
    ∷ filling (read_cnf_of (112 ∷ 32 ∷ 99 ∷ 110 ∷ 102 ∷ 32 ∷ 49 ∷ 32 ∷ 49 ∷ 10 ∷ 49 ∷ 32 ∷ []) 9 9) is filled (refused 17 (10 ∷ [])) [] []
    ∷ filling (read_cnf_of (112 ∷ 32 ∷ 99 ∷ 110 ∷ 102 ∷ 32 ∷ 49 ∷ 32 ∷ 48 ∷ 10 ∷ 49 ∷ 32 ∷ []) 9 9) is filled (refused 17 (10 ∷ [])) [] []
    -- a number that is 1 after 2^32 is taken off
    ∷ filling (read_cnf_of (112 ∷ 32 ∷ 99 ∷ 110 ∷ 102 ∷ 32 ∷ 49 ∷ 32 ∷ 49 ∷ 10 ∷ 52 ∷ 50 ∷ 57 ∷ 52 ∷ 57 ∷ 54 ∷ 55 ∷ 50 ∷ 57 ∷ 55 ∷ 32 ∷ 48 ∷ 10 ∷ []) 9 9)
    is filled (refused 17 (10 ∷ [])) [] []
    ∷ []

-- A wrong count, and files without a header.
abbrev pub places : List CnfRow
places =
    -- a wrong count, at the header: too small, too large, of 40 digits; a wrong line is answered first
    filling (read_cnf_of (99 ∷ 10 ∷ 112 ∷ 32 ∷ 99 ∷ 110 ∷ 102 ∷ 32 ∷ 50 ∷ 32 ∷ 49 ∷ 10 ∷ 49 ∷ 32 ∷ 48 ∷ 10 ∷ 50 ∷ 32 ∷ 48 ∷ 10 ∷ []) 9 9)
    is filled (refused 17 (2 ∷ [])) [] []
    ∷ filling (read_cnf_of (99 ∷ 10 ∷ 112 ∷ 32 ∷ 99 ∷ 110 ∷ 102 ∷ 32 ∷ 50 ∷ 32 ∷ 51 ∷ 10 ∷ 49 ∷ 32 ∷ 48 ∷ 10 ∷ 50 ∷ 32 ∷ 48 ∷ 10 ∷ []) 9 9)
    is filled (refused 17 (2 ∷ [])) [] []
    ∷ filling (read_cnf_of (99 ∷ 10 ∷ 112 ∷ 32 ∷ 99 ∷ 110 ∷ 102 ∷ 32 ∷ 50 ∷ 32 ∷ 49 ∷ 50 ∷ 51 ∷ 52 ∷ 53 ∷ 54 ∷ 55 ∷ 56 ∷ 57 ∷ 48 ∷ 49 ∷ 50 ∷ 51 ∷ 52 ∷ 53 ∷
    54 ∷ 55 ∷ 56 ∷ 57 ∷ 48 ∷ 49 ∷ 50 ∷ 51 ∷ 52 ∷ 53 ∷ 54 ∷ 55 ∷ 56 ∷ 57 ∷ 48 ∷ 49 ∷ 50 ∷ 51 ∷ 52 ∷ 53 ∷ 54 ∷ 55 ∷ 56 ∷ 57 ∷ 48 ∷ 10 ∷ 49 ∷ 32 ∷ 48 ∷ 10 ∷
    []) 9 9)
    is filled (refused 17 (2 ∷ [])) [] []
    ∷ filling (read_cnf_of (99 ∷ 10 ∷ 112 ∷ 32 ∷ 99 ∷ 110 ∷ 102 ∷ 32 ∷ 50 ∷ 32 ∷ 49 ∷ 50 ∷ 51 ∷ 52 ∷ 53 ∷ 54 ∷ 55 ∷ 56 ∷ 57 ∷ 48 ∷ 49 ∷ 50 ∷ 51 ∷ 52 ∷ 53 ∷
    54 ∷ 55 ∷ 56 ∷ 57 ∷ 48 ∷ 49 ∷ 50 ∷ 51 ∷ 52 ∷ 53 ∷ 54 ∷ 55 ∷ 56 ∷ 57 ∷ 48 ∷ 49 ∷ 50 ∷ 51 ∷ 52 ∷ 53 ∷ 54 ∷ 55 ∷ 56 ∷ 57 ∷ 48 ∷ 10 ∷ 49 ∷ 32 ∷ 48 ∷ 10 ∷
    51 ∷ 32 ∷ 48 ∷ 10 ∷ []) 9 9)
    is filled (refused 17 (55 ∷ [])) [] []
    ∷ filling (read_cnf_of (99 ∷ 10 ∷ 112 ∷ 32 ∷ 99 ∷ 110 ∷ 102 ∷ 32 ∷ 50 ∷ 32 ∷ 49 ∷ 10 ∷ 49 ∷ 32 ∷ 48 ∷ 10 ∷ 50 ∷ 32 ∷ 48 ∷ 10 ∷ 51 ∷ 32 ∷ 48 ∷ 10 ∷ []) 9 9)
    is filled (refused 17 (20 ∷ [])) [] []
    -- the empty file; only `c` lines, closed or not: the file's end
    ∷ filling (read_cnf_of [] 9 9) is filled (refused 17 (0 ∷ [])) [] []
    ∷ filling (read_cnf_of (99 ∷ 10 ∷ []) 9 9) is filled (refused 17 (2 ∷ [])) [] []
    ∷ filling (read_cnf_of (99 ∷ 32 ∷ 120 ∷ []) 9 9) is filled (refused 17 (3 ∷ [])) [] []
    ∷ filling (read_cnf_of (99 ∷ 10 ∷ 99 ∷ 10 ∷ 99 ∷ []) 9 9) is filled (refused 17 (5 ∷ [])) [] []
    ∷ filling (read_cnf_of (99 ∷ 10 ∷ 99 ∷ 10 ∷ []) 9 9) is filled (refused 17 (4 ∷ [])) [] []
    -- 17 before 2
    ∷ filling (read_cnf_of (112 ∷ 32 ∷ 99 ∷ 110 ∷ 102 ∷ 32 ∷ 50 ∷ 32 ∷ 50 ∷ 10 ∷ 49 ∷ 32 ∷ 48 ∷ 10 ∷ 51 ∷ 32 ∷ 48 ∷ 10 ∷ []) 0 0)
    is filled (refused 17 (14 ∷ [])) [] []
    ∷ filling (read_cnf_of [] 0 0) is filled (refused 17 (0 ∷ [])) [] []
    ∷ filling (read_cnf_of (112 ∷ 32 ∷ 99 ∷ 110 ∷ 102 ∷ 32 ∷ 50 ∷ 32 ∷ 50 ∷ 10 ∷ 49 ∷ 32 ∷ 48 ∷ 10 ∷ []) 0 0) is filled (refused 17 (0 ∷ [])) [] []
    -- `c` alone
    ∷ filling (read_cnf_of (99 ∷ []) 9 9) is filled (refused 17 (1 ∷ [])) [] []
    -- C that is 0 after 2^32 or 2^64 is taken off
    ∷ filling (read_cnf_of (112 ∷ 32 ∷ 99 ∷ 110 ∷ 102 ∷ 32 ∷ 48 ∷ 32 ∷ 52 ∷ 50 ∷ 57 ∷ 52 ∷ 57 ∷ 54 ∷ 55 ∷ 50 ∷ 57 ∷ 54 ∷ 10 ∷ []) 9 9)
    is filled (refused 17 (0 ∷ [])) [] []
    ∷ filling (read_cnf_of (112 ∷ 32 ∷ 99 ∷ 110 ∷ 102 ∷ 32 ∷ 48 ∷ 32 ∷ 49 ∷ 56 ∷ 52 ∷ 52 ∷ 54 ∷ 55 ∷ 52 ∷ 52 ∷ 48 ∷ 55 ∷ 51 ∷ 55 ∷ 48 ∷ 57 ∷ 53 ∷ 53 ∷ 49 ∷ 54 ∷
    49 ∷ 54 ∷ 10 ∷ []) 9 9)
    is filled (refused 17 (0 ∷ [])) [] []
    ∷ []

-- The numbers of Read CNF's answers.
abbrev pub answer_rows : List CnfRow
answer_rows =
    answer (cnf_read (Ok (cnf_size 7 5 2))) is answer (accepted (7 ∷ 5 ∷ 2 ∷ []))
    ∷ answer (cnf_read (Err (WrongLine 4))) is answer (refused 17 (4 ∷ []))
    ∷ answer (cnf_read (Err Room)) is answer (refused 2 [])
    ∷ []
