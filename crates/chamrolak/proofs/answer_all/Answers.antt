-- `chamrolak::answer_all` leaves what the rules' reply leaves: the run's rooms by the refinement, and the report of its end.
-- Assumes nothing.
use Rattle.chamrolak.specs.Reached.{leaves, lent_in}
use Rattle.chamrolak.proofs.answer_all.Goals as goal

pub returns : goal.returns
returns c = let x = c.args in
    let g = x.g.now in
    let f = c.requires.0 in
    record {
      same = c.run_all-st.ensures.same;
      answer = λ T s. leaves T g.tokens.now g.origin x.budget (lent_in x.rooms.now x.report.now) _ _ _
          f.tokens_fit f.bytes f.origin_in c.ranges.budget.fits (c.run_all-st.ensures.by_index T s)
          c.number_of.ensures c.value_of.ensures
          (c.put_report.ensures T (record { actions_are = s.acts.actions_are; states_are = s.acts.states_are; kinds_are = s.acts.kinds_are }));
    }
