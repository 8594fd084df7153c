-- `chamrolak::run_all` is the byte model's run: the call serves the model's, and meets what the driver asks.
-- Assumes nothing.
use Rattle.driver.specs.Served
use Rattle.chamrolak.specs.Reached.{rooms_in, call_in, own, counted}
use Rattle.chamrolak.proofs.run_all.Goals as goal

pub returns : goal.returns
returns c = let x = c.args in
    let f = c.requires in
    let b = rooms_in x.rooms.now in
    let g = x.g.now in
    record {
      same = c.drive.ensures.same;
      by_index = λ T s. c.drive.ensures.drives (call_in T g b) s;
      counted = counted (Served.call_of g).tables g.tokens.now g.origin x.budget b _ f.tokens_fit f.bytes f.origin_in
          c.ranges.budget.fits (c.drive.ensures.drives (call_in (Served.call_of g).tables g b) (own g b f));
    }
