-- `Page::byte` writes its byte where there is room, and else nothing.
-- Assumes nothing.
use Rattle.std.proofs.Common.{refl, arith}
use Rattle.printer.specs.Writing.{one_in, one_out}
use Rattle.printer.proofs.Page.byte.Goals as goal

pub returns-then-self : goal.returns-then-self
returns-then-self c = record { wrote = one_in _ _ _ (omega arith); same_buffer = refl }

pub returns-else-self : goal.returns-else-self
returns-else-self c = record { wrote = one_out _ _ _ (omega arith); same_buffer = refl }
