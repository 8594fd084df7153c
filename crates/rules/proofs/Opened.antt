-- The definitions of `rules` opened, so that they compute: to unfold one of these is to unfold all that its line names.
use mathlib.Core.List.{List, [], ◌∷◌}
use Prim.Native.Nat.{ℕ}
use lib.Count.{ones_in, ones}
use Rattle.words.specs.Words.{get16, get32, word16, word32, le2, le4}
use Rattle.rules.specs.Verdict.{Verdict}
use Rattle.rules.specs.Basics.{all_below, any_below, bits, codes_from, text}
use Rattle.rules.specs.Tables.{Tables, states, kinds, nonterminals, production_count, item_count, flag, cell_at, action, goto, move, left, size, right_start, symbol, symbols_from, rhs, item_at, nullable_byte, in_set, nullable, in_first}
use Rattle.rules.specs.Check.{sizes_fit, lengths_agree, set_fits, ok10, enters_well, action_fits, goto_fits, ok11, symbol_fits, left_fits, ok12, all_nullable, begins_with, ok13, item_fits, before, ascends, ok14, is_at, has_item, has_item_for, comes_well, dot_fits, ok15, reduce_fits, ok16, can_begin, moves_on, opens, follows_symbol, reduces, has_goto, follow_ups, ok17, first_false, judge, check17, check16, check15, check14, check13, check12, check11, check, ok18}
use Rattle.rules.specs.Driving.{Run, look_column, expects, expected_word, node_of, grow, judge_kind, arrive, token_entry, shift, empty_spot, production_entry, reduce_over, reduce, main_reduce, formed, answer_of, fail, main_look, column_reduce, column_look, drop_token, further, start_simulation, search_look, has_dropped, mark_start, mark_end, marked, mark_entry, place_mark, recover, simulate_over, simulate_reduce, simulate_look, look, step, run_from, first_run, begin, drive}
use Rattle.rules.specs.Answers.{Limits, Reply, expected_words, expected_of, ones_of, node_words, record_words, bytes_of, nodes_bytes, records_bytes, counts_of, job_of, tokens_from, tokens_of, reply_of, drive_reply, after_check, parse_reply}
use Rattle.rules.specs.Trees.{tree_from, tree_at}
use Rattle.rules.specs.File.{length_fits, is_cut, found_at, records_from, file_of, part_of, tables_of, file_tokens, file_reply, digits_of, decimal, spaced_all, kinds_in, kinds_of, refused_line, answer_line, units_line, tree_line, mark_line, mark_lines, show_reply, show_file, printed, show_tree, show_first, show_next}

unfoldable pub judged : Tables → Verdict
unfolding get16 get32 word16 word32 le2 le4 all_below any_below states kinds nonterminals production_count item_count flag cell_at action goto move left size right_start symbol symbols_from rhs item_at nullable_byte in_set nullable in_first sizes_fit lengths_agree set_fits ok10 enters_well action_fits goto_fits ok11 symbol_fits left_fits ok12 all_nullable begins_with ok13 item_fits before ascends ok14 is_at has_item has_item_for comes_well dot_fits ok15 reduce_fits ok16 can_begin moves_on opens follows_symbol reduces has_goto follow_ups ok17 first_false judge check17 check16 check15 check14 check13 check12 check11 check
judged T = check T

unfoldable pub replied : Tables → List ℕ → ℕ → Limits → Reply
unfolding judged ok18 bits look_column expects expected_word node_of grow judge_kind arrive token_entry shift empty_spot production_entry reduce_over reduce main_reduce formed answer_of fail main_look column_reduce column_look drop_token further start_simulation search_look has_dropped mark_start mark_end marked mark_entry place_mark recover simulate_over simulate_reduce simulate_look look step run_from first_run begin drive job_of tokens_from tokens_of reply_of drive_reply after_check parse_reply
replied T tokens origin limits = parse_reply T tokens origin limits

-- the bytes of nodes, child entries and records, one behind the other
unfoldable pub written : Tables → Run → List (List ℕ)
unfolding ones_in ones kinds_in kinds_of expected_words expected_of ones_of node_words record_words bytes_of nodes_bytes records_bytes counts_of
written T r = nodes_bytes r.nodes ∷ bytes_of r.children ∷ records_bytes T r.marks ∷ []

unfoldable pub lines_of : List ℕ → List ℕ
unfolding replied written codes_from text tree_from tree_at length_fits is_cut found_at records_from file_of part_of tables_of file_tokens file_reply digits_of decimal spaced_all kinds_in kinds_of refused_line answer_line units_line tree_line mark_line mark_lines show_reply show_file printed show_tree show_first show_next
lines_of file = printed file
