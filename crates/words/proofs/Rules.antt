-- `search tests` closes a return of a function that branches on numbers and calls nothing, under `unfolding` of its spec.
-- Each test's value comes from the fact that its branch tells, so a spec by `pick` computes to the branch taken.
-- Assumes nothing.
use borrow.Author.Rules.{rules}
use borrow.Author.Tests.{eq-eqb, ne_eqb, lt-ltb, le-ltb, le-leb, lt-leb}

pub ruleset tests = (rules, eq-eqb, ne_eqb, lt-ltb, le-ltb, le-leb, lt-leb)
