use Prim.Native.Nat.{◌+◌, ◌*◌, ◌≤◌}
use Rattle.verdict_line.proofs.PutInTurn.{ChoicesPut}
use Rattle.verdict_line.proofs.put_choices.Given as goal

abbrev pub invariant-loop-choice : goal.invariant-loop-choice
invariant-loop-choice l = (l.next ≤ l.at + 4 * l.choice-index) × ChoicesPut l.choices l.initial.out l.out l.at l.next l.choice-index
