-- The anchors hold: what the definitions give is what document 01 says, row by row, by computation.
use mathlib.Core.Path.{refl}
use Rattle.base.specs.Bounded.{all_below, least, count, every_of, any_of, keep_of}
use Rattle.scope.specs.Table.{word, is_shown, give_user, take_user, give_solver, take_solver, put_record, put_value, drop_global, least_free, undeleted}
use Rattle.scope.specs.Table.{next_solver}
use Rattle.scope.specs.Sound.{soundb, sizesb, marksb, at_mostb, tailb, backb, namedb, deletedb, tailsb, pairsb, listsb, storedb}
use Rattle.scope.specs.Notes.{notes_words, held_by}
use Rattle.scope.specs.Outcome.{choose, each, unless}
use Rattle.scope.specs.Open.{empty_table, open_of}
use Rattle.scope.specs.Lookup.{found, lookup_of, global_from_user_of, user_from_global_of, solver_from_global_of, global_from_solver_of, record_word_of}
use Rattle.scope.specs.Lookup.{assignment_word_of}
use Rattle.scope.specs.Map.{global_for, map_one, fill_gap, map_user, next_user, new_user, to_map, unsampled, map_refusal, map_of, new_user_refusal, new_user_of}
use Rattle.scope.specs.Grant.{grant_one, grant, grant_refusal, grant_of}
use Rattle.scope.specs.Pose.{pose_one, pose, wanted, users_to_map, pose_refusal, pose_of}
use Rattle.scope.specs.Distinct.{count_named, is_first, plain_count, top_of, is_low, needs_grant, users_by}
use Rattle.scope.specs.Modes.{is_unused, delete_if_unused, show, hide, change, set_mode, set_mode_refusal, set_mode_of, is_hidden, observe_one, observe}
use Rattle.scope.specs.Modes.{observe_refusal, observe_of}
use Rattle.scope.specs.Marks.{not_held, unheld, held_else, lits_held_else, mark, mark_refusal, mark_of, assign_refusal, assign_of}
use Rattle.scope.specs.Remove.{remove_held, remove, remove_refusal, remove_of, learn, sweep_held, sweep_one, sweep, sweep_refusal, sweep_of}
use Rattle.drat.specs.Numeral.{spell, further, bytes_of}
use Rattle.drat.specs.Grammar.{number, numbers, encode_step, encode}
use Rattle.scope.specs.Write.{rename_lits, unmatched, outside, step_refusal, rename_refusal, rename_of, step_bytes, write_refusal, write_of}
use Rattle.scope.specs.Simplify.{unfalse, simplified, simplify_bytes, simplify_refusal, simplify_of}
use Rattle.scope.specs.Binary.{cutsb, sections_of, each_section, times, has_mirror, mirrored, kept_at, deletes_at, sections_for, filled_codes, kept_words}
use Rattle.scope.specs.Binary.{kept_count, delete_bytes, binary_refusal, binary_of}
use Rattle.scope.specs.Models.{global_value, row_of, global_model, user_literal, user_model, model_refusal, model_of}
use Rattle.scope.specs.Anchors.{AnchorsAgree}
use Rattle.scope.specs.AnchorsWords.{literal_anchors, record_parts, every_part, note_rows, held_rows}
use Rattle.scope.specs.AnchorsSound.{sounds}
use Rattle.scope.specs.AnchorsNames.{open_anchors, lookups, map_answers, maps, new_users, grant_anchors, poses}
use Rattle.scope.specs.AnchorsModes.{set_modes, observes, removes, sweeps, models}
use Rattle.scope.specs.AnchorsMarks.{mark_rows, assigns}
use Rattle.scope.specs.AnchorsSteps.{simplifies, kind_anchors, causes, renames, write_anchors}
use Rattle.scope.specs.AnchorsBinary.{binaries}
use Rattle.scope.specs.AnchorsDistinct.{user_counts}
use Rattle.scope.specs.AnchorsStored.{stored_rows}

literals_hold : AnchorsAgree literal_anchors
unfolding all_below least count any_of keep_of word is_shown give_user take_user give_solver take_solver put_record put_value drop_global soundb listsb storedb sizesb
    marksb at_mostb tailb backb namedb deletedb tailsb pairsb notes_words held_by choose each unless least_free next_solver undeleted
literals_hold = (refl, (refl, (refl, (refl, (refl, (refl, (refl, (refl, tt))))))))

record_parts_hold : AnchorsAgree record_parts
unfolding all_below least count any_of keep_of word is_shown give_user take_user give_solver take_solver put_record put_value drop_global soundb listsb storedb sizesb
    marksb at_mostb tailb backb namedb deletedb tailsb pairsb notes_words held_by choose each unless is_unused delete_if_unused show hide change set_mode
    set_mode_refusal set_mode_of is_hidden observe_one observe observe_refusal observe_of least_free next_solver undeleted
record_parts_hold = (refl, (refl, (refl, (refl, (refl, (refl, (refl, (refl, (refl, (refl, (refl, (refl, (refl, (refl, (refl, (refl, (refl, (refl, (refl, (refl, (refl, (refl, (refl, (refl, (refl, (refl, (refl, tt)))))))))))))))))))))))))))

every_part_hold : AnchorsAgree every_part
unfolding all_below least count any_of keep_of word is_shown give_user take_user give_solver take_solver put_record put_value drop_global soundb listsb storedb sizesb
    marksb at_mostb tailb backb namedb deletedb tailsb pairsb notes_words held_by choose each unless is_unused delete_if_unused show hide change set_mode
    set_mode_refusal set_mode_of is_hidden observe_one observe observe_refusal observe_of least_free next_solver undeleted
every_part_hold = (refl, (refl, (refl, (refl, (refl, (refl, (refl, (refl, (refl, (refl, (refl, (refl, (refl, (refl, (refl, tt)))))))))))))))

note_rows_hold : AnchorsAgree note_rows
unfolding all_below least count any_of keep_of word is_shown give_user take_user give_solver take_solver put_record put_value drop_global soundb listsb storedb sizesb
    marksb at_mostb tailb backb namedb deletedb tailsb pairsb notes_words held_by choose each unless least_free next_solver undeleted
note_rows_hold = (refl, (refl, (refl, (refl, (refl, (refl, (refl, (refl, (refl, tt)))))))))

held_rows_hold : AnchorsAgree held_rows
unfolding all_below least count any_of keep_of word is_shown give_user take_user give_solver take_solver put_record put_value drop_global soundb listsb storedb sizesb
    marksb at_mostb tailb backb namedb deletedb tailsb pairsb notes_words held_by choose each unless least_free next_solver undeleted
held_rows_hold = (refl, (refl, (refl, (refl, (refl, (refl, (refl, (refl, (refl, (refl, (refl, tt)))))))))))

sounds_hold : AnchorsAgree sounds
unfolding all_below least count any_of keep_of word is_shown give_user take_user give_solver take_solver put_record put_value drop_global soundb listsb storedb sizesb
    marksb at_mostb tailb backb namedb deletedb tailsb pairsb notes_words held_by choose each unless found lookup_of global_from_user_of user_from_global_of
    solver_from_global_of global_from_solver_of record_word_of assignment_word_of least_free next_solver undeleted
sounds_hold = (refl, (refl, (refl, (refl, (refl, (refl, (refl, (refl, (refl, (refl, (refl, (refl, (refl, (refl, (refl, (refl, (refl, (refl, (refl, (refl, (refl, (refl, (refl, (refl, (refl, (refl, (refl, (refl, (refl, (refl, (refl, (refl, (refl, (refl, (refl, (refl, (refl, (refl, (refl, (refl, (refl, (refl, (refl, (refl, (refl, (refl, (refl, (refl, (refl, (refl, (refl, (refl, (refl, (refl, (refl, (refl, (refl, (refl, (refl, (refl, (refl, (refl, (refl, (refl, (refl, (refl, (refl, (refl, (refl, (refl, (refl, (refl, (refl, (refl, (refl, (refl, (refl, (refl, (refl, (refl, (refl, (refl, (refl, (refl, (refl, (refl, tt))))))))))))))))))))))))))))))))))))))))))))))))))))))))))))))))))))))))))))))))))))))

opens_hold : AnchorsAgree open_anchors
unfolding all_below least count any_of keep_of word is_shown give_user take_user give_solver take_solver put_record put_value drop_global soundb listsb storedb sizesb
    marksb at_mostb tailb backb namedb deletedb tailsb pairsb notes_words held_by choose each unless empty_table open_of least_free next_solver undeleted
opens_hold = (refl, (refl, (refl, (refl, (refl, (refl, (refl, (refl, (refl, (refl, (refl, tt)))))))))))

lookups_hold : AnchorsAgree lookups
unfolding all_below least count any_of keep_of word is_shown give_user take_user give_solver take_solver put_record put_value drop_global soundb listsb storedb sizesb
    marksb at_mostb tailb backb namedb deletedb tailsb pairsb notes_words held_by choose each unless found lookup_of global_from_user_of user_from_global_of
    solver_from_global_of global_from_solver_of record_word_of assignment_word_of least_free next_solver undeleted
lookups_hold = (refl, (refl, (refl, (refl, (refl, (refl, (refl, (refl, (refl, (refl, (refl, (refl, (refl, (refl, (refl, (refl, (refl, (refl, (refl, (refl, (refl, (refl, (refl, (refl, (refl, (refl, (refl, (refl, (refl, (refl, (refl, tt)))))))))))))))))))))))))))))))

map_answers_hold : AnchorsAgree map_answers
unfolding all_below least count any_of keep_of word is_shown give_user take_user give_solver take_solver put_record put_value drop_global soundb listsb storedb sizesb
    marksb at_mostb tailb backb namedb deletedb tailsb pairsb notes_words held_by choose each unless least_free global_for map_one fill_gap map_user next_user new_user
    undeleted to_map unsampled map_refusal map_of new_user_refusal new_user_of next_solver
map_answers_hold = (refl, (refl, (refl, (refl, (refl, tt)))))

maps_hold : AnchorsAgree maps
unfolding all_below least count any_of keep_of word is_shown give_user take_user give_solver take_solver put_record put_value drop_global soundb listsb storedb sizesb
    marksb at_mostb tailb backb namedb deletedb tailsb pairsb notes_words held_by choose each unless least_free global_for map_one fill_gap map_user next_user new_user
    undeleted to_map unsampled map_refusal map_of new_user_refusal new_user_of next_solver
maps_hold = (refl, (refl, (refl, (refl, (refl, (refl, (refl, (refl, (refl, (refl, (refl, (refl, (refl, (refl, (refl, (refl, (refl, tt)))))))))))))))))

new_users_hold : AnchorsAgree new_users
unfolding all_below least count any_of keep_of word is_shown give_user take_user give_solver take_solver put_record put_value drop_global soundb listsb storedb sizesb
    marksb at_mostb tailb backb namedb deletedb tailsb pairsb notes_words held_by choose each unless least_free global_for map_one fill_gap map_user next_user new_user
    undeleted to_map unsampled map_refusal map_of new_user_refusal new_user_of next_solver
new_users_hold = (refl, (refl, (refl, (refl, (refl, (refl, (refl, tt)))))))

grants_hold : AnchorsAgree grant_anchors
unfolding all_below least count any_of keep_of word is_shown give_user take_user give_solver take_solver put_record put_value drop_global soundb listsb storedb sizesb
    marksb at_mostb tailb backb namedb deletedb tailsb pairsb notes_words held_by choose each unless least_free global_for map_one fill_gap map_user next_user new_user
    undeleted to_map unsampled map_refusal map_of new_user_refusal new_user_of next_solver grant_one grant grant_refusal grant_of
grants_hold = (refl, (refl, (refl, (refl, (refl, (refl, (refl, (refl, (refl, (refl, tt))))))))))

poses_hold : AnchorsAgree poses
unfolding all_below least count any_of keep_of word is_shown give_user take_user give_solver take_solver put_record put_value drop_global soundb listsb storedb sizesb
    marksb at_mostb tailb backb namedb deletedb tailsb pairsb notes_words held_by choose each unless least_free global_for map_one fill_gap map_user next_user new_user
    undeleted to_map unsampled map_refusal map_of new_user_refusal new_user_of next_solver grant_one grant grant_refusal grant_of pose_one pose wanted users_to_map
    pose_refusal pose_of
poses_hold = (refl, (refl, (refl, (refl, (refl, (refl, (refl, (refl, (refl, (refl, (refl, (refl, (refl, (refl, (refl, (refl, tt))))))))))))))))

set_modes_hold : AnchorsAgree set_modes
unfolding all_below least count any_of keep_of word is_shown give_user take_user give_solver take_solver put_record put_value drop_global soundb listsb storedb sizesb
    marksb at_mostb tailb backb namedb deletedb tailsb pairsb notes_words held_by choose each unless least_free global_for map_one fill_gap map_user next_user new_user
    undeleted to_map unsampled map_refusal map_of new_user_refusal new_user_of is_unused delete_if_unused show hide change set_mode set_mode_refusal set_mode_of is_hidden
    observe_one observe observe_refusal observe_of next_solver
set_modes_hold = (refl, (refl, (refl, (refl, (refl, (refl, (refl, (refl, (refl, (refl, (refl, (refl, (refl, (refl, (refl, (refl, (refl, (refl, (refl, (refl, (refl, (refl, tt))))))))))))))))))))))

observes_hold : AnchorsAgree observes
unfolding all_below least count any_of keep_of word is_shown give_user take_user give_solver take_solver put_record put_value drop_global soundb listsb storedb sizesb
    marksb at_mostb tailb backb namedb deletedb tailsb pairsb notes_words held_by choose each unless least_free global_for map_one fill_gap map_user next_user new_user
    undeleted to_map unsampled map_refusal map_of new_user_refusal new_user_of is_unused delete_if_unused show hide change set_mode set_mode_refusal set_mode_of is_hidden
    observe_one observe observe_refusal observe_of next_solver
observes_hold = (refl, (refl, (refl, (refl, (refl, (refl, (refl, (refl, tt))))))))

removes_hold : AnchorsAgree removes
unfolding all_below least count any_of keep_of word is_shown give_user take_user give_solver take_solver put_record put_value drop_global soundb listsb storedb sizesb
    marksb at_mostb tailb backb namedb deletedb tailsb pairsb notes_words held_by choose each unless not_held unheld held_else lits_held_else mark mark_refusal mark_of
    assign_refusal assign_of least_free global_for map_one fill_gap map_user next_user new_user undeleted to_map unsampled map_refusal map_of new_user_refusal new_user_of
    is_unused delete_if_unused show hide change set_mode set_mode_refusal set_mode_of is_hidden observe_one observe observe_refusal observe_of remove_held remove
    remove_refusal remove_of learn sweep_held sweep_one sweep sweep_refusal sweep_of next_solver
removes_hold = (refl, (refl, (refl, (refl, (refl, (refl, (refl, (refl, (refl, (refl, (refl, (refl, (refl, (refl, (refl, (refl, (refl, (refl, (refl, (refl, (refl, (refl, (refl, (refl, (refl, tt)))))))))))))))))))))))))

sweeps_hold : AnchorsAgree sweeps
unfolding all_below least count any_of keep_of word is_shown give_user take_user give_solver take_solver put_record put_value drop_global soundb listsb storedb sizesb
    marksb at_mostb tailb backb namedb deletedb tailsb pairsb notes_words held_by choose each unless not_held unheld held_else lits_held_else mark mark_refusal mark_of
    assign_refusal assign_of least_free global_for map_one fill_gap map_user next_user new_user undeleted to_map unsampled map_refusal map_of new_user_refusal new_user_of
    is_unused delete_if_unused show hide change set_mode set_mode_refusal set_mode_of is_hidden observe_one observe observe_refusal observe_of remove_held remove
    remove_refusal remove_of learn sweep_held sweep_one sweep sweep_refusal sweep_of next_solver
sweeps_hold = (refl, (refl, (refl, (refl, (refl, (refl, (refl, (refl, tt))))))))

models_hold : AnchorsAgree models
unfolding all_below least count any_of keep_of word is_shown give_user take_user give_solver take_solver put_record put_value drop_global soundb listsb storedb sizesb
    marksb at_mostb tailb backb namedb deletedb tailsb pairsb notes_words held_by choose each unless global_value row_of global_model user_literal user_model
    model_refusal model_of least_free next_solver undeleted
models_hold = (refl, (refl, (refl, (refl, (refl, (refl, (refl, (refl, tt))))))))

mark_rows_hold : AnchorsAgree mark_rows
unfolding all_below least count any_of keep_of word is_shown give_user take_user give_solver take_solver put_record put_value drop_global soundb listsb storedb sizesb
    marksb at_mostb tailb backb namedb deletedb tailsb pairsb notes_words held_by choose each unless not_held unheld held_else lits_held_else mark mark_refusal mark_of
    assign_refusal assign_of least_free next_solver undeleted
mark_rows_hold = (refl, (refl, (refl, (refl, (refl, (refl, (refl, (refl, (refl, (refl, (refl, (refl, (refl, (refl, (refl, (refl, (refl, (refl, tt))))))))))))))))))

assigns_hold : AnchorsAgree assigns
unfolding all_below least count any_of keep_of word is_shown give_user take_user give_solver take_solver put_record put_value drop_global soundb listsb storedb sizesb
    marksb at_mostb tailb backb namedb deletedb tailsb pairsb notes_words held_by choose each unless not_held unheld held_else lits_held_else mark mark_refusal mark_of
    assign_refusal assign_of least_free next_solver undeleted
assigns_hold = (refl, (refl, (refl, (refl, (refl, (refl, (refl, (refl, (refl, (refl, tt))))))))))

simplifies_hold : AnchorsAgree simplifies
unfolding all_below least count any_of keep_of word is_shown give_user take_user give_solver take_solver put_record put_value drop_global soundb listsb storedb sizesb
    marksb at_mostb tailb backb namedb deletedb tailsb pairsb notes_words held_by choose each unless not_held unheld held_else lits_held_else mark mark_refusal mark_of
    assign_refusal assign_of spell further bytes_of number numbers encode_step encode rename_lits unmatched outside step_refusal rename_refusal rename_of step_bytes
    write_refusal write_of unfalse simplified simplify_bytes simplify_refusal simplify_of least_free next_solver undeleted
simplifies_hold = (refl, (refl, (refl, (refl, (refl, (refl, (refl, (refl, (refl, (refl, (refl, (refl, (refl, (refl, (refl, (refl, (refl, (refl, (refl, (refl, (refl, (refl, (refl, (refl, tt))))))))))))))))))))))))

kinds_hold : AnchorsAgree kind_anchors
unfolding all_below least count any_of keep_of word is_shown give_user take_user give_solver take_solver put_record put_value drop_global soundb listsb storedb sizesb
    marksb at_mostb tailb backb namedb deletedb tailsb pairsb notes_words held_by choose each unless least_free next_solver undeleted
kinds_hold = (refl, (refl, (refl, (refl, tt))))

causes_hold : AnchorsAgree causes
unfolding all_below least count any_of keep_of word is_shown give_user take_user give_solver take_solver put_record put_value drop_global soundb listsb storedb sizesb
    marksb at_mostb tailb backb namedb deletedb tailsb pairsb notes_words held_by choose each unless least_free next_solver undeleted
causes_hold = (refl, (refl, (refl, tt)))

renames_hold : AnchorsAgree renames
unfolding all_below least count any_of keep_of word is_shown give_user take_user give_solver take_solver put_record put_value drop_global soundb listsb storedb sizesb
    marksb at_mostb tailb backb namedb deletedb tailsb pairsb notes_words held_by choose each unless not_held unheld held_else lits_held_else mark mark_refusal mark_of
    assign_refusal assign_of rename_lits unmatched outside step_refusal rename_refusal rename_of step_bytes write_refusal write_of least_free next_solver undeleted
renames_hold = (refl, (refl, (refl, (refl, (refl, (refl, (refl, (refl, (refl, (refl, (refl, (refl, (refl, (refl, (refl, (refl, (refl, (refl, (refl, (refl, (refl, (refl, (refl, (refl, (refl, (refl, (refl, (refl, (refl, (refl, (refl, (refl, (refl, (refl, (refl, tt)))))))))))))))))))))))))))))))))))

written_hold : AnchorsAgree write_anchors
unfolding all_below least count any_of keep_of word is_shown give_user take_user give_solver take_solver put_record put_value drop_global soundb listsb storedb sizesb
    marksb at_mostb tailb backb namedb deletedb tailsb pairsb notes_words held_by choose each unless not_held unheld held_else lits_held_else mark mark_refusal mark_of
    assign_refusal assign_of spell further bytes_of number numbers encode_step encode rename_lits unmatched outside step_refusal rename_refusal rename_of step_bytes
    write_refusal write_of least_free next_solver undeleted
written_hold = (refl, (refl, (refl, (refl, (refl, (refl, (refl, (refl, (refl, (refl, (refl, (refl, (refl, (refl, (refl, (refl, (refl, (refl, (refl, (refl, (refl, (refl, (refl, (refl, (refl, (refl, (refl, (refl, (refl, (refl, (refl, (refl, (refl, (refl, (refl, tt)))))))))))))))))))))))))))))))))))

binaries_hold : AnchorsAgree binaries
unfolding all_below every_of any_of keep_of word is_shown soundb listsb storedb sizesb marksb at_mostb tailb backb namedb deletedb tailsb pairsb notes_words unless
    not_held unheld lits_held_else spell further bytes_of number numbers encode_step encode rename_lits cutsb sections_of each_section times has_mirror mirrored kept_at
    deletes_at sections_for filled_codes kept_words kept_count delete_bytes binary_refusal binary_of least_free next_solver undeleted least count
binaries_hold = (refl, (refl, (refl, (refl, (refl, (refl, (refl, (refl, (refl, (refl, (refl, (refl, (refl, (refl, (refl, (refl, (refl, (refl, (refl, (refl, (refl, (refl, (refl, (refl, (refl, (refl, (refl, (refl, (refl, (refl, (refl, (refl, (refl, (refl, tt))))))))))))))))))))))))))))))))))

user_counts_hold : AnchorsAgree user_counts
unfolding count any_of word count_named is_first plain_count top_of is_low needs_grant users_by
user_counts_hold = (refl, (refl, (refl, (refl, (refl, (refl, (refl, (refl, (refl, (refl, (refl, (refl, (refl, (refl, (refl, (refl, (refl, (refl, (refl, (refl, (refl, (refl, (refl, (refl, (refl, (refl, (refl, (refl, (refl, (refl, (refl, (refl, (refl, (refl, (refl, (refl, (refl, (refl, (refl, (refl, tt))))))))))))))))))))))))))))))))))))))))

stored_rows_hold : AnchorsAgree stored_rows
unfolding all_below least count any_of keep_of word is_shown give_user take_user give_solver take_solver put_record put_value drop_global soundb listsb storedb
    sizesb marksb at_mostb tailb backb namedb deletedb tailsb pairsb notes_words held_by choose each unless least_free next_solver undeleted is_unused
    delete_if_unused show hide change set_mode set_mode_refusal set_mode_of is_hidden observe_one observe observe_refusal observe_of found lookup_of
    global_from_user_of user_from_global_of solver_from_global_of global_from_solver_of record_word_of assignment_word_of empty_table open_of global_for map_one fill_gap
    map_user next_user new_user to_map unsampled map_refusal map_of new_user_refusal new_user_of grant_one grant grant_refusal grant_of pose_one pose wanted
    users_to_map pose_refusal pose_of not_held unheld held_else lits_held_else mark mark_refusal mark_of assign_refusal assign_of remove_held remove remove_refusal
    remove_of learn sweep_held sweep_one sweep sweep_refusal sweep_of global_value row_of global_model user_literal user_model model_refusal model_of spell
    further bytes_of number numbers encode_step encode rename_lits unmatched outside step_refusal rename_refusal rename_of step_bytes write_refusal write_of
    unfalse simplified simplify_bytes simplify_refusal simplify_of every_of cutsb sections_of each_section times has_mirror mirrored kept_at deletes_at
    sections_for filled_codes kept_words kept_count delete_bytes binary_refusal binary_of count_named is_first plain_count top_of is_low needs_grant users_by
stored_rows_hold = (refl, (refl, (refl, (refl, (refl, (refl, (refl, (refl, (refl, (refl, (refl, (refl, (refl, (refl, (refl, (refl, (refl, (refl, (refl, (refl, (refl, (refl, (refl, (refl, (refl, (refl, (refl, (refl, (refl, (refl, (refl, (refl, tt))))))))))))))))))))))))))))))))

pub anchored : AnchorsAgree literal_anchors × AnchorsAgree record_parts × AnchorsAgree every_part × AnchorsAgree note_rows × AnchorsAgree held_rows
    × AnchorsAgree sounds × AnchorsAgree open_anchors × AnchorsAgree lookups × AnchorsAgree map_answers × AnchorsAgree maps
    × AnchorsAgree new_users × AnchorsAgree grant_anchors × AnchorsAgree poses × AnchorsAgree set_modes × AnchorsAgree observes
    × AnchorsAgree removes × AnchorsAgree sweeps × AnchorsAgree models × AnchorsAgree mark_rows × AnchorsAgree assigns
    × AnchorsAgree simplifies × AnchorsAgree kind_anchors × AnchorsAgree causes × AnchorsAgree renames × AnchorsAgree write_anchors
    × AnchorsAgree binaries × AnchorsAgree user_counts × AnchorsAgree stored_rows
anchored = (
  literals_hold,
  record_parts_hold,
  every_part_hold,
  note_rows_hold,
  held_rows_hold,
  sounds_hold,
  opens_hold,
  lookups_hold,
  map_answers_hold,
  maps_hold,
  new_users_hold,
  grants_hold,
  poses_hold,
  set_modes_hold,
  observes_hold,
  removes_hold,
  sweeps_hold,
  models_hold,
  mark_rows_hold,
  assigns_hold,
  simplifies_hold,
  kinds_hold,
  causes_hold,
  renames_hold,
  written_hold,
  binaries_hold,
  user_counts_hold,
  stored_rows_hold,
)
