-- The two_shelf model is accepted, and so is the one without its wait action, in which the work is over in a state: no theorem on accepted
-- models is empty, nor on such states.
use mathlib.Core.Path.{◌≡◌, refl}
use mathlib.Core.Bool.{true, false}
use mathlib.Core.List.{[], ◌∷◌, map}
use Rattle.logic.specs.Lists.{all, any, every, is_empty, keep, count_from}
use Rattle.logic.specs.Model.{no_action, true_of, contradict, mask, enabled_actions, deadlocked, enabled, stored, outcomes}
use Rattle.logic.specs.Quantity.{sum}
use Rattle.logic.specs.Accepted.{Accepted}
use Rattle.logic.specs.TwoShelf.{two_shelf}
use Rattle.logic.specs.WithoutWait.{without_wait}
use Rattle.logic.proofs.Acceptance.{step_ok, targets_differ, fulfilled, all_contradict, choice_ok, row_ok, state_ok, states_ok, passed_accepted}

two_shelf_passes : states_ok two_shelf ≡ true
unfolding two_shelf all any every is_empty keep count_from no_action true_of contradict mask enabled_actions deadlocked enabled stored outcomes sum step_ok targets_differ fulfilled all_contradict choice_ok row_ok state_ok states_ok
two_shelf_passes = refl

pub two_shelf_accepted : Accepted two_shelf
two_shelf_accepted = passed_accepted two_shelf two_shelf_passes

without_wait_passes : states_ok without_wait ≡ true
unfolding without_wait all any every is_empty keep count_from no_action true_of contradict mask enabled_actions deadlocked enabled stored outcomes sum step_ok targets_differ fulfilled all_contradict choice_ok row_ok state_ok states_ok
without_wait_passes = refl

pub without_wait_accepted : Accepted without_wait
without_wait_accepted = passed_accepted without_wait without_wait_passes

-- The work is over in state 2, and in no other.
pub without_wait_deadlocked : map (deadlocked without_wait) (0 ∷ 1 ∷ 2 ∷ []) ≡ false ∷ false ∷ true ∷ []
unfolding without_wait is_empty keep count_from no_action true_of mask enabled_actions deadlocked
without_wait_deadlocked = refl
