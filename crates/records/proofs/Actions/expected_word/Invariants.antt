-- `records::Actions::expected_word` is the word of its tests: after b turns it is the lowest b of them, below the weight of bit b.
-- Assumes nothing.
use Rattle.std.proofs.Common.{◌≡◌, ◌+◌, ◌*◌, ◌<◌, ◌^◌}
use Rattle.rules.specs.Basics.{bits}
use Rattle.records.specs.Expected.{expects_in}
use Rattle.records.proofs.Actions.expected_word.Given as goal

abbrev pub invariant-loop-b : goal.invariant-loop-b
invariant-loop-b l = (l.word ≡ bits l.b (λ k. expects_in l.fn.self.bytes.now l.fn.self.states l.fn.self.kinds l.fn.state (32 * l.fn.j + k))) × (l.word < 2 ^ l.b)
