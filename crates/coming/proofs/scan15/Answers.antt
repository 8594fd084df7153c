-- `coming::scan15` is the rules' test 15: passing over repeated items changes no first place.
-- Assumes nothing.
use Rattle.std.proofs.Common.{rules, ◌||◌}
use Rattle.rules.specs.Check.{ok15}
use Rattle.items.specs.Lookup.{repeats}
use Rattle.coming.specs.Coming.{passing}
use Rattle.coming.proofs.scan15.Goals as goal

pub returns : goal.returns
returns c =
    let T = c.args.t.now in
    rw (← passing T, ← c.item_count.ensures.value) (c.first_bad.ensures (λ k. repeats T k || ok15 T k) (λ i b h e. search rules))
