use native.Mathlib.Omega.{arith}
use Rattle.logic.specs.Lists.{count_from, tabulate}
use Rattle.prepared_model.proofs.ReadByPlace.{none_else}
use Rattle.prepared_model.proofs.row_of.Goals as goal

pub returns : goal.returns
unfolding tabulate count_from
returns c = record {
  place = omega arith;
  few = omega arith;
  offers = λ o g. absurd (omega arith);
  named = λ g. absurd (omega arith);
  row = none_else c.requires.0 c.args.s c.requires.1 c.args.a (λ i h. c.loop-at.invariant i (omega (arith, c.choices-at-end.ensures)));
}
