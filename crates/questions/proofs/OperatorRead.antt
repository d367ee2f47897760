-- Which operator, and which relation, a byte stands for: exactly the one whose number it is.
use Prim.Native.Nat.{ℕ, zero, suc}
use native.Mathlib.Omega.{arith}
use mathlib.Core.Path.{◌≡◌, refl, sym, ap, ap₂, ◌∙◌}
use mathlib.Core.Bool.{◌&&◌}
use borrow.Author.Tests.{le-leb, lt-leb}
use Rattle.std.specs.Prelude.{Result, Ok, Err, is_ok}
use Rattle.blocks.specs.Bytes.{within}
use Rattle.questions.specs.declared.operators.Operator.{Operator}
use Rattle.questions.specs.declared.operators.Operator.TheVariants.{False, Prop, Not, And, Do, Next, Gain, Plan, Earns}
use Rattle.questions.specs.declared.operators.Unknown.{Unknown}
use Rattle.questions.specs.promises.Operators.{operator_number, operator_of, relation_of}
use Rattle.questions.proofs.TableNodeByNode.{by_operator}

pub operator_of_number : (o : Operator) → operator_of (operator_number o) ≡ Ok o
unfolding operator_of
operator_of_number False = refl
operator_of_number Prop = refl
operator_of_number Not = refl
operator_of_number And = refl
operator_of_number Do = refl
operator_of_number Next = refl
operator_of_number Gain = refl
operator_of_number Plan = refl
operator_of_number Earns = refl

-- The number of the operator that a byte was read as is the byte.
read_number : (n : ℕ) (o : Operator) → operator_of n ≡ Ok o → n ≡ operator_number o
unfolding operator_of
read_number =
    by_operator (λ n. (o : Operator) → operator_of n ≡ Ok o → n ≡ operator_number o)
    (λ o e. absurd (cc))
    (λ o e. ap operator_number (read e))
    (λ o e. ap operator_number (read e))
    (λ o e. ap operator_number (read e))
    (λ o e. ap operator_number (read e))
    (λ o e. ap operator_number (read e))
    (λ o e. ap operator_number (read e))
    (λ o e. ap operator_number (read e))
    (λ o e. ap operator_number (read e))
    (λ o e. ap operator_number (read e))
    (λ k o e. absurd (cc))
  where
    read : {a o : Operator} → ◌≡◌ {A = Result Operator Unknown} (Ok a) (Ok o) → a ≡ o
    read e = cc

module _ {r : Result Operator Unknown} {n : ℕ} {x : Operator} (o : Operator) (read : r ≡ operator_of n) where
  pub number_is : r ≡ Ok x → x ≡ o → n ≡ operator_number o
  number_is is e = read_number n o (sym read ∙ is ∙ ap Ok e)

  pub number_not : r ≡ Ok x → (x ≡ o → ⊥) → n ≡ operator_number o → ⊥
  number_not is h e = let k : Ok x ≡ Ok o = sym is ∙ read ∙ ap operator_of e ∙ operator_of_number o in h (cc)

-- A byte that was read as none is the number of none.
pub number_none : {r : Result Operator Unknown} {n : ℕ} {u : Unknown} → r ≡ operator_of n → r ≡ Err u → (o : Operator) → n ≡ operator_number o → ⊥
number_none {u = u} read is o e = let k : Err u ≡ Ok o = sym is ∙ read ∙ ap operator_of e ∙ operator_of_number o in absurd (cc)

-- The bytes that stand for relations are 1 to 3.
pub relation_within : (n : ℕ) → is_ok (relation_of n) ≡ within 1 3 n
unfolding relation_of within
relation_within zero = refl
relation_within (suc zero) = refl
relation_within (suc (suc zero)) = refl
relation_within (suc (suc (suc zero))) = refl
relation_within (suc (suc (suc (suc k)))) = let n = suc (suc (suc (suc k))) in sym (ap₂ ◌&&◌ (le-leb 1 n (omega arith)) (lt-leb n 3 (omega arith)))
