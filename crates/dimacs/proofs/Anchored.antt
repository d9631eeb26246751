-- The anchors hold: what the definitions give is what order 4 says, row by row, by computation.
use mathlib.Core.Path.{refl}
use Rattle.base.specs.Bounded.{all_below}
use Rattle.drat.specs.Numeral.{spell, further, bytes_of}
use Rattle.drat.specs.Grammar.{number, numbers}
use Rattle.drat.specs.Reading.{digits_from, signed_from}
use Rattle.drat.specs.Filled.{codes_of, ends_from}
use Rattle.drat.specs.Listed.{rises_to}
use Rattle.dimacs.specs.Cnf.{largest, clause_lines}
use Rattle.dimacs.specs.Calls.{clauses_by, adds, cnf_by}
use Rattle.dimacs.specs.Reading.{header_place, digits_of, value_from, starts_with, head_from, then_blank, end_from, line_from, within, cons_clause}
use Rattle.dimacs.specs.Reading.{clauses_from, counted_by, file_by, read_file}
use Rattle.dimacs.specs.Anchors.{Agree, writes, unwritten, files, headers, forms, wrong_lines, wrong_bytes, places, answer_rows}

writes_hold : Agree writes
unfolding all_below spell further bytes_of number numbers codes_of ends_from rises_to digits_from signed_from then_blank end_from line_from largest clause_lines
    clauses_by adds cnf_by header_place digits_of value_from starts_with head_from within cons_clause clauses_from counted_by file_by read_file
writes_hold = (refl, (refl, (refl, (refl, (refl, (refl, (refl, (refl, (refl, (refl, (refl, tt)))))))))))

unwritten_hold : Agree unwritten
unfolding all_below spell further bytes_of number numbers codes_of ends_from rises_to digits_from signed_from then_blank end_from line_from largest clause_lines
    clauses_by adds cnf_by header_place digits_of value_from starts_with head_from within cons_clause clauses_from counted_by file_by read_file
unwritten_hold = (refl, (refl, (refl, (refl, (refl, (refl, (refl, (refl, (refl, (refl, (refl, (refl, (refl, (refl, (refl, tt)))))))))))))))

files_hold : Agree files
unfolding all_below spell further bytes_of number numbers codes_of ends_from rises_to digits_from signed_from then_blank end_from line_from largest clause_lines
    clauses_by adds cnf_by header_place digits_of value_from starts_with head_from within cons_clause clauses_from counted_by file_by read_file
files_hold = (refl, (refl, (refl, (refl, (refl, (refl, (refl, (refl, (refl, (refl, (refl, (refl, (refl, (refl, (refl, (refl, tt))))))))))))))))

headers_hold : Agree headers
unfolding all_below spell further bytes_of number numbers codes_of ends_from rises_to digits_from signed_from then_blank end_from line_from largest clause_lines
    clauses_by adds cnf_by header_place digits_of value_from starts_with head_from within cons_clause clauses_from counted_by file_by read_file
headers_hold = (refl, (refl, (refl, (refl, (refl, (refl, (refl, (refl, (refl, (refl, (refl, (refl, (refl, tt)))))))))))))

forms_hold : Agree forms
unfolding all_below spell further bytes_of number numbers codes_of ends_from rises_to digits_from signed_from then_blank end_from line_from largest clause_lines
    clauses_by adds cnf_by header_place digits_of value_from starts_with head_from within cons_clause clauses_from counted_by file_by read_file
forms_hold = (refl, (refl, (refl, (refl, (refl, (refl, (refl, (refl, (refl, (refl, (refl, (refl, tt))))))))))))

lines_hold : Agree wrong_lines
unfolding all_below spell further bytes_of number numbers codes_of ends_from rises_to digits_from signed_from then_blank end_from line_from largest clause_lines
    clauses_by adds cnf_by header_place digits_of value_from starts_with head_from within cons_clause clauses_from counted_by file_by read_file
lines_hold = (refl, (refl, (refl, (refl, (refl, (refl, (refl, (refl, (refl, (refl, (refl, (refl, (refl, (refl, (refl, tt)))))))))))))))

bytes_hold : Agree wrong_bytes
unfolding all_below spell further bytes_of number numbers codes_of ends_from rises_to digits_from signed_from then_blank end_from line_from largest clause_lines
    clauses_by adds cnf_by header_place digits_of value_from starts_with head_from within cons_clause clauses_from counted_by file_by read_file
bytes_hold = (refl, (refl, (refl, (refl, (refl, (refl, (refl, tt)))))))

places_hold : Agree places
unfolding all_below spell further bytes_of number numbers codes_of ends_from rises_to digits_from signed_from then_blank end_from line_from largest clause_lines
    clauses_by adds cnf_by header_place digits_of value_from starts_with head_from within cons_clause clauses_from counted_by file_by read_file
places_hold = (refl, (refl, (refl, (refl, (refl, (refl, (refl, (refl, (refl, (refl, (refl, (refl, (refl, (refl, (refl, (refl, tt))))))))))))))))

answers_hold : Agree answer_rows
answers_hold = (refl, (refl, (refl, tt)))

pub anchored : Agree writes × Agree unwritten × Agree files × Agree headers × Agree forms × Agree wrong_lines × Agree wrong_bytes
    × Agree places × Agree answer_rows
anchored = (writes_hold, unwritten_hold, files_hold, headers_hold, forms_hold, lines_hold, bytes_hold, places_hold, answers_hold)
