-- The place in the table is that of the node and the state.
use Prim.Native.Nat.{ℕ}
use mathlib.Core.Path.{ap, ◌∙◌}
use lib.ListN.{set}
use Rattle.relevance.proofs.mark.Goals as goal

pub returns : goal.returns
returns c = c.store.ensures ∙ ap (λ (k : ℕ). set c.args.need.now k 1) c.place.ensures
