-- What is known along a path: after the trail t from s, the values of a cone's nodes at all places where as many steps follow as the
-- node looks ahead.
use Rattle.std.specs.Prelude.{ℕ, ◌+◌, ◌≤◌, ◌<◌, ◌≡◌, List, [], ◌∷◌, ◌++◌, get_or, length, take, drop, ℤ, pos}
use Rattle.logic.specs.Formula.{depth}
use Rattle.logic.specs.promises.Total.{value_of}
use Rattle.blocks.specs.Bytes.{Bytes}
use Rattle.prepared_model.specs.promises.Rows.{step_in, Offers, model_in}
use Rattle.prepared_question.specs.promises.Nodes.{formula}
use Rattle.evaluation.specs.promises.Path.{number_of, steps_of, state_after, Trail, gain_of}
use Rattle.evaluation.specs.promises.Reached.{Reached, root_of}
use Rattle.evaluation.specs.promises.Learnt.{known}

-- The values that an earlier step made known, and of those that the last one does the first i nodes'.
pub record Known (m q : Bytes) (s : ℕ) (cone t : List ℕ) (i : ℕ) (v : List ℕ) : Type 0 where
  pub right : (e k : ℕ) → e < length cone → k + depth (formula q (get_or cone e 0)) ≤ length t
      → (k + depth (formula q (get_or cone e 0)) ≡ length t → e < i)
      → Reached m q (root_of cone) s (get_or cone e 0) (state_after m s (take k t))
      → known v (get_or cone e 0) k ≡ value_of (model_in m) (formula q (get_or cone e 0)) (state_after m s (take k t)) (drop k (steps_of m s t))

pub record Gained (m : Bytes) (s : ℕ) (t : List ℕ) (gains : List ℤ) : Type 0 where
  pub right : (k : ℕ) → k ≤ length t → get_or gains k (pos 0) ≡ gain_of (take k (steps_of m s t))

pub record Knows (m q : Bytes) (s : ℕ) (cone t : List ℕ) (gains : List ℤ) (v : List ℕ) : Type 0 where
  pub followed : Trail m s t
  pub gained : Gained m s t gains
  pub values : Known m q s cone t (length cone) v
  pub sums : length gains ≡ 7
  pub places : length v ≡ 280

-- The first h numbers of a trail lead from the start to the state s, where a choice stands at place i and has this outcome.
pub record Offered (m : Bytes) (start : ℕ) (trail : List ℕ) (h s i o : ℕ) : Type 0 where
  pub steps : h < 6
  pub state : state_after m start (take h trail) ≡ s
  pub offers : Offers m s i o

-- The step taken: the trail, of h numbers before, is one longer, all that it makes known is known, and t is the state reached.
pub record Stepped (m q : Bytes) (start : ℕ) (cone : List ℕ) (h s i o : ℕ) (trail trail' : List ℕ) (gains' : List ℤ) (v' : List ℕ) (t : ℕ) : Type 0 where
  pub whole : length (take h trail) ≡ h
  pub longer : take (h + 1) trail' ≡ take h trail ++ (number_of m s i o ∷ [])
  pub state : t ≡ (step_in m s i o).target
  pub knows : Knows m q start cone (take (h + 1) trail') gains' v'

-- Back at the first h steps of a trail: they are as they were, and all is known on them that was.
pub record Back (m q : Bytes) (start : ℕ) (cone : List ℕ) (h : ℕ) (trail trail' : List ℕ) (gains' : List ℤ) (v' : List ℕ) : Type 0 where
  pub kept : take h trail' ≡ take h trail
  pub knows : Knows m q start cone (take h trail) gains' v'
