-- What the program prints for a file, by what the reader gives of it: a refusal's line, or the reply of a call on the payloads, whose
-- tokens are widened.
use Rattle.std.specs.Prelude.{List, ◌≡◌, ℕ, ◌*◌, ◌/◌, ◌≤◌, length, take, Result, Ok, Err}
use Rattle.std.proofs.Common.{ap, ◌∙◌}
use Rattle.rules.specs.Answers.{parse_reply}
use Rattle.rules.specs.File.{Filed, file_of, tables_of, file_reply, program_limits, refused_line, show_reply, show_file, printed}
use Rattle.reader.specs.declared.Payloads.{Payloads}
use Rattle.reader.specs.declared.FileError.{FileError}
use Rattle.reader.specs.Reading.{number_of, parts_of, filed_of}
use Rattle.reader.specs.Parts.{cut_out, tokens_cut}
use Rattle.reader.specs.Tokens.{Widened, file_reply_law}

by_reading : (s : List ℕ) (r : Result Payloads FileError) → filed_of r ≡ file_of s → printed s ≡ show_file s (filed_of r)
unfolding printed
by_reading s r e = rw e

pub printed_refused_at : (s : List ℕ) (number place : ℕ) → Filed.refused_at number place ≡ file_of s → printed s ≡ refused_line number place
unfolding printed show_file
printed_refused_at s number place e = rw (← e)

pub printed_refused : (s : List ℕ) (x : FileError) → filed_of (Err x) ≡ file_of s → printed s ≡ refused_line (number_of x.refusal) x.place
unfolding filed_of show_file
printed_refused s x e = by_reading s (Err x) e

pub printed_reply : (s : List ℕ) (ps : Payloads) → filed_of (Ok ps) ≡ file_of s → printed s ≡ show_reply (tables_of s (parts_of ps)) (file_reply (tables_of s (parts_of ps)) (cut_out s ps.tokens))
unfolding filed_of show_file
printed_reply s ps e = by_reading s (Ok ps) e ∙ rw (tokens_cut s ps)

pub printed_call : (s : List ℕ) (ps : Payloads) (entry exit : List ℕ) (n : ℕ) → filed_of (Ok ps) ≡ file_of s → Widened (cut_out s ps.tokens) entry exit n → length (cut_out s ps.tokens) / 10 ≤ length entry / 12 → printed s ≡ show_reply (tables_of s (parts_of ps)) (parse_reply (tables_of s (parts_of ps)) (take (12 * n) exit) 0 program_limits)
printed_call s ps entry exit n e w h =
    printed_reply s ps e
    ∙ ap (show_reply (tables_of s (parts_of ps))) (file_reply_law (tables_of s (parts_of ps)) (cut_out s ps.tokens) entry exit n w h)
