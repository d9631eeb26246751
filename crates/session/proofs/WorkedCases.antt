-- The worked cases hold: what the definitions give is what document 01 says, case by case, by computation.
use mathlib.Core.Path.{refl}
use Rattle.base.specs.Bounded.{all_below, least, count, every_of, any_of, keep_of}
use Rattle.drat.specs.Numeral.{spell, further, bytes_of}
use Rattle.drat.specs.Grammar.{number, numbers, encode_step, encode}
use Rattle.drat.specs.Reading.{digits_from, signed_from, seps, then_gap, leb_from, close_from, token, gap_from, opening, cons_part, body, as_step, one_step}
use Rattle.drat.specs.Reading.{cons_step, steps_from, read_proof}
use Rattle.drat.specs.Filled.{answer_of, codes_of, ends_from, kinds_of}
use Rattle.scope.specs.Table.{word, is_shown, give_user, take_user, give_solver, take_solver, put_record, put_value, drop_global, least_free, undeleted, next_solver}
use Rattle.scope.specs.Sound.{soundb, sizesb, marksb, at_mostb, tailb, backb, namedb, deletedb, tailsb, pairsb, listsb, storedb}
use Rattle.scope.specs.Outcome.{choose, each, unless}
use Rattle.scope.specs.Open.{empty_table, open_of}
use Rattle.scope.specs.Map.{global_for, map_one, fill_gap, map_user, next_user, new_user}
use Rattle.scope.specs.Map.{to_map, unsampled, map_refusal, map_of, new_user_refusal, new_user_of}
use Rattle.scope.specs.Grant.{grant_one, grant, grant_refusal, grant_of}
use Rattle.scope.specs.Modes.{is_unused, delete_if_unused, show, hide, change, set_mode}
use Rattle.scope.specs.Modes.{set_mode_refusal, set_mode_of, is_hidden, observe_one, observe, observe_refusal, observe_of}
use Rattle.scope.specs.Marks.{not_held, mark, mark_refusal, mark_of, unheld, held_else, lits_held_else}
use Rattle.scope.specs.Remove.{remove_held, learn, sweep_held, sweep_one, sweep, sweep_refusal, sweep_of}
use Rattle.scope.specs.Write.{rename_lits, unmatched, outside, step_refusal, step_bytes, write_refusal, write_of}
use Rattle.session.specs.Worked.{CasesAgree, cases}

infixr 20 ◌and◌
◌and◌ : {A B : Type 0} → A → B → A × B
x and y = (x, y)

pub worked : CasesAgree cases
unfolding all_below least count every_of any_of keep_of spell further bytes_of number numbers encode_step encode digits_from signed_from seps then_gap leb_from
    close_from token gap_from opening cons_part body as_step one_step cons_step steps_from read_proof answer_of codes_of ends_from kinds_of word is_shown give_user
    take_user give_solver take_solver put_record drop_global put_value soundb listsb storedb sizesb marksb at_mostb tailb backb namedb deletedb tailsb pairsb choose
    each unless empty_table open_of least_free global_for map_one fill_gap map_user next_user new_user undeleted to_map unsampled map_refusal map_of new_user_refusal
    new_user_of next_solver grant_one grant grant_refusal grant_of is_unused delete_if_unused show hide change set_mode set_mode_refusal set_mode_of is_hidden observe_one
    observe observe_refusal observe_of not_held held_else mark mark_refusal mark_of remove_held learn sweep_held sweep_one sweep sweep_refusal sweep_of rename_lits
    unmatched outside unheld lits_held_else step_refusal step_bytes write_refusal write_of
worked =
    refl and refl and refl and refl and refl and refl and refl and refl and refl and refl and
    refl and refl and refl and refl and refl and refl and refl and refl and refl and refl and
    refl and refl and refl and refl and refl and refl and refl and refl and refl and refl and tt
