-- The codec's anchors hold: what the definitions give is what document 01 says, row by row, by computation.
use mathlib.Core.Path.{refl}
use Rattle.base.specs.Bounded.{all_below}
use Rattle.drat.specs.Numeral.{spell, further, bytes_of}
use Rattle.drat.specs.Grammar.{number, numbers, encode_step, encode}
use Rattle.drat.specs.Reading.{digits_from, signed_from, seps, then_gap, leb_from, close_from, token, gap_from, opening, cons_part, body, as_step, one_step}
use Rattle.drat.specs.Reading.{cons_step, steps_from, read_proof}
use Rattle.drat.specs.Filled.{codes_of, ends_from, kinds_of, answer_of, first_by}
use Rattle.drat.specs.Listed.{listed, rises_to}
use Rattle.drat.specs.Anchors.{Agree, literal_rows, write_rows, reads, firsts, answer_rows, part_rows, wholes}

literals_hold : Agree literal_rows
unfolding all_below spell further bytes_of number numbers encode_step encode digits_from signed_from seps then_gap leb_from close_from token gap_from opening
    cons_part body as_step one_step cons_step steps_from read_proof codes_of ends_from kinds_of answer_of first_by listed rises_to
literals_hold = (refl, (refl, (refl, (refl, (refl, (refl, (refl, (refl, (refl, (refl, (refl, (refl, (refl, (refl, (refl, tt)))))))))))))))

written_hold : Agree write_rows
unfolding all_below spell further bytes_of number numbers encode_step encode digits_from signed_from seps then_gap leb_from close_from token gap_from opening
    cons_part body as_step one_step cons_step steps_from read_proof codes_of ends_from kinds_of answer_of first_by listed rises_to
written_hold = (refl, (refl, (refl, (refl, (refl, (refl, (refl, (refl, (refl, (refl, (refl, tt)))))))))))

reads_hold : Agree reads
unfolding all_below spell further bytes_of number numbers encode_step encode digits_from signed_from seps then_gap leb_from close_from token gap_from opening
    cons_part body as_step one_step cons_step steps_from read_proof codes_of ends_from kinds_of answer_of first_by listed rises_to
reads_hold = (refl, (refl, (refl, (refl, (refl, (refl, (refl, (refl, (refl, (refl, (refl, (refl, (refl, (refl, (refl, (refl, (refl, (refl, (refl, (refl, (refl, (refl, (refl, (refl, (refl, (refl, (refl, (refl, (refl, (refl, (refl, (refl, (refl, (refl, (refl, (refl, (refl, (refl, (refl, (refl, (refl, (refl, (refl, (refl, (refl, (refl, (refl, (refl, (refl, (refl, (refl, (refl, (refl, (refl, (refl, (refl, (refl, (refl, (refl, (refl, (refl, (refl, (refl, (refl, (refl, (refl, (refl, (refl, (refl, (refl, (refl, (refl, (refl, (refl, (refl, (refl, (refl, (refl, (refl, (refl, (refl, tt)))))))))))))))))))))))))))))))))))))))))))))))))))))))))))))))))))))))))))))))))

firsts_hold : Agree firsts
unfolding all_below spell further bytes_of number numbers encode_step encode digits_from signed_from seps then_gap leb_from close_from token gap_from opening
    cons_part body as_step one_step cons_step steps_from read_proof codes_of ends_from kinds_of answer_of first_by listed rises_to
firsts_hold = (refl, (refl, (refl, (refl, (refl, (refl, (refl, (refl, (refl, (refl, (refl, (refl, (refl, (refl, (refl, (refl, (refl, (refl, tt))))))))))))))))))

answers_hold : Agree answer_rows
unfolding all_below spell further bytes_of number numbers encode_step encode digits_from signed_from seps then_gap leb_from close_from token gap_from opening
    cons_part body as_step one_step cons_step steps_from read_proof codes_of ends_from kinds_of answer_of first_by listed rises_to
answers_hold = (refl, (refl, (refl, (refl, (refl, (refl, (refl, (refl, tt))))))))

parts_hold : Agree part_rows
unfolding all_below spell further bytes_of number numbers encode_step encode digits_from signed_from seps then_gap leb_from close_from token gap_from opening
    cons_part body as_step one_step cons_step steps_from read_proof codes_of ends_from kinds_of answer_of first_by listed rises_to
parts_hold = (refl, (refl, (refl, (refl, (refl, (refl, (refl, (refl, (refl, tt)))))))))

wholes_hold : Agree wholes
unfolding all_below spell further bytes_of number numbers encode_step encode digits_from signed_from seps then_gap leb_from close_from token gap_from opening
    cons_part body as_step one_step cons_step steps_from read_proof codes_of ends_from kinds_of answer_of first_by listed rises_to
wholes_hold = (refl, (refl, (refl, (refl, (refl, (refl, (refl, (refl, (refl, (refl, (refl, tt)))))))))))

pub anchored : Agree literal_rows × Agree write_rows × Agree reads × Agree firsts × Agree answer_rows × Agree part_rows × Agree wholes
anchored = (literals_hold, written_hold, reads_hold, firsts_hold, answers_hold, parts_hold, wholes_hold)
