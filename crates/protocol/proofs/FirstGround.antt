-- The calls as described are the chains that the code's contracts cite; a call is refused with the first of its grounds that applies; and
-- every ground of a call has a number that document 01 lists for it. By what is held, one step of the description after the other.
use Prim.Native.Nat.{ℕ}
use mathlib.Core.Path.{◌≡◌, refl, sym, ap, subst, ◌∙◌}
use mathlib.Core.Logic.{◌↔◌}
use mathlib.Core.Bool.{Bool, true, false, not, cond, ◌&&◌, false≢true}
use mathlib.Core.List.{List, [], ◌∷◌}
use mathlib.Core.Option.{Option, none, some}
use lib.Dec.{eqb, leb}
use lib.ListN.{length}
use Rattle.logic.specs.Checked.{Checked, ok, refused, got, ◌>>=◌, ◌>>◌, guard}
use Rattle.logic.specs.promises.Refusal.{held}
use Rattle.logic.specs.Lists.{any}
use Rattle.logic.specs.Grounds.{Ground, ◌unless◌, first, decided}
use Rattle.logic.specs.Model.{Model}
use Rattle.logic.specs.Plan.{Plan}
use Rattle.logic.specs.Verdict.{Goal, goal, Verdict, no, yes, yes_plan, verdict}
use Rattle.logic.specs.Limits.{limit_grounds, limits}
use Rattle.logic.specs.Choices.{plan_of}
use Rattle.logic.proofs.Checked.{not_ok, ok_same}
use Rattle.logic.proofs.Tests.{and_both, none≢some, some_same}
use Rattle.blocks.specs.Bytes.{Bytes}
use Rattle.models.specs.Layout.{model_of}
use Rattle.models.specs.Grounds.{model_grounds, read_model}
use Rattle.questions.specs.Layout.{Question, question_of}
use Rattle.questions.specs.Grounds.{question_grounds, read_question}
use Rattle.sheets.specs.Layout.{Sheet, sheet_of}
use Rattle.sheets.specs.Grounds.{sheet_grounds, read_sheet}
use Rattle.protocol.specs.Tested.{Tested, value, fails, test, found, tests, grounds, run, ◌>>=◌ as ◌⊳=◌, ◌>>◌ as ◌⊳◌}
use Rattle.protocol.specs.Calls.{Call, load, put, judge, query, write, check, write_model, Held, Report, Answer, done, judged, written, accepted, refuse, Reply, says, wrote, written_to, lent, shown_sheet, written_bytes, same, accepted_plan, reported, described, replied, yields}
use Rattle.protocol.specs.Demand1.{listed}
use Rattle.protocol.proofs.Refusals.{refused_same, not_refused, plan_only, goal_only}
use Rattle.protocol.specs.promises.Chains.{do_put, do_judge, sheet_shown, do_write, do_write_model, check_on, do_check, answered, by_chain}

-- ---- the first ground that applies

-- Running the tests refuses with the first ground that applies, and with no other.
pub first_refused : {A : Type 0} (c : Tested A) (k : ℕ) → (run c ≡ refused k) ↔ (first (grounds c) ≡ some k)
unfolding run grounds first
first_refused (value a) k = (λ e. absurd (not_refused e), λ e. absurd (none≢some e))
first_refused (fails j) k = (λ e. ap some (refused_same e), λ e. ap refused (some_same e))
first_refused (test g c) k = by g.passes (first_refused c k)
  where
    by : (t : Bool) → (run c ≡ refused k) ↔ (first (grounds c) ≡ some k)
        → (cond t (run c) (refused g.number) ≡ refused k) ↔ (cond t (first (grounds c)) (some g.number) ≡ some k)
    by true i = i
    by false i = (λ e. ap some (refused_same e), λ e. ap refused (some_same e))

-- ---- tests and chains

module _ {A B : Type 0} (l : Bytes) (f : B → Reply) where
  -- Tests before the rest are the chain's first part.
  tests_then : (gs : List Ground) (a : A) (c : Tested Reply) (d : A → Checked B) → replied l (run c) ≡ answered l (d a) f
      → replied l (run (tests gs ⊳ c)) ≡ answered l (decided gs a >>= d) f
  unfolding run
  tests_then [] a c d e = e
  tests_then (g ∷ gs) a c d e = by g.passes (tests_then gs a c d e)
    where
      by : (t : Bool) → replied l (run (tests gs ⊳ c)) ≡ answered l (decided gs a >>= d) f
          → replied l (cond t (run (tests gs ⊳ c)) (refused g.number)) ≡ answered l (guard g.number t >> decided gs a >>= d) f
      by true e = e
      by false e = refl

bind_value : {A : Type 0} (c : Checked A) → (c >>= ok) ≡ c
bind_value (ok a) = refl
bind_value (refused k) = refl

then_bind : {A B : Type 0} (c : Checked A) (d : Checked B) → (c >> d) ≡ (c >>= (λ a. d))
then_bind (ok a) d = refl
then_bind (refused k) d = refl

-- ---- each call

-- Tests, and then the same answer whatever was read.
done_after : {A : Type 0} (gs : List Ground) (a : A) → replied [] (run (tests gs ⊳ value (says done))) ≡ answered [] (decided gs a) (λ x. says done)
unfolding run
done_after gs a =
    tests_then [] (λ x. says done) gs a (value (says done)) ok refl
    ∙ ap (λ c. answered [] c (λ x. says done)) (bind_value (decided gs a))

yields_load : (h : Held) (b : Bytes) → yields h (load b) ≡ by_chain h (load b)
unfolding yields described by_chain lent read_model
yields_load h b = done_after (model_grounds b) (model_of b)

yields_put : (h : Held) (b : Bytes) → yields h (put b) ≡ by_chain h (put b)
unfolding yields described by_chain lent do_put run read_question
yields_put h b = by h.model
  where
    by : (o : Option Model)
        → replied [] (run (found 20 o ⊳= (λ m. tests (question_grounds (length m.states) (length m.actions) m.propositions b) ⊳ value (says done))))
        ≡ answered [] (held 20 o >>= (λ m. read_question (length m.states) (length m.actions) m.propositions b)) (λ q. says done)
    by none = refl
    by (some m) = done_after (question_grounds (length m.states) (length m.actions) m.propositions b) (question_of b)

yields_judge : (h : Held) → yields h judge ≡ by_chain h judge
unfolding yields described by_chain lent do_judge run limits
yields_judge h = by h.model h.question
  where
    by : (o : Option Model) (p : Option Question)
        → replied [] (run (found 20 o ⊳= (λ m. found 21 p ⊳= (λ q. tests (limit_grounds m q.nodes) ⊳ value (says (judged (verdict m q.start q.root)))))))
        ≡ answered [] (held 20 o >>= (λ m. held 21 p >>= (λ q. limits m q.nodes >> ok (verdict m q.start q.root)))) (λ v. says (judged v))
    by none p = refl
    by (some m) none = refl
    by (some m) (some q) =
        let v : Verdict = verdict m q.start q.root in
        tests_then [] (λ v. says (judged v)) (limit_grounds m q.nodes) tt (value (says (judged v))) (λ u. ok v) refl
        ∙ ap (λ c. answered [] c (λ v. says (judged v))) (sym (then_bind (limits m q.nodes) (ok v)))

-- Bytes are written where the buffer is long enough, or the ground is 12.
module _ (a b : Bytes) where
  writes : replied a (run (written_to a b)) ≡ answered a (guard 12 (leb (length b) (length a)) >> ok b) (wrote a)
  unfolding run
  writes = by (leb (length b) (length a))
    where
      by : (t : Bool) → replied a (cond t (ok (wrote a b)) (refused 12)) ≡ answered a (guard 12 t >> ok b) (wrote a)
      by true = refl
      by false = refl

-- Where a call asks for a goal, it is there, or the ground is 22.
yields_write : (h : Held) (a : Bytes) → yields h (query (write a)) ≡ by_chain h (query (write a))
unfolding yields described by_chain lent do_write run got shown_sheet sheet_shown
yields_write h a = by h.model h.question
  where
    shown : (q : Question) (g : Goal) (o : Option Verdict)
        → replied a (run (found 23 (shown_sheet o) ⊳= (λ x. written_to a (written_bytes q g x))))
        ≡ answered a (held 23 o >>= (λ v. sheet_shown v >>= (λ x. guard 12 (leb (length (written_bytes q g x)) (length a)) >> ok (written_bytes q g x)))) (wrote a)
    shown q g none = refl
    shown q g (some (no v)) = refl
    shown q g (some yes) = refl
    shown q g (some (yes_plan v)) = writes a (written_bytes q g (record { weight = v.total; choices = v.choices }))

    asked : (m : Model) (q : Question) (c : Checked Goal) → goal m q.start q.root ≡ c
        → replied a (run (found 22 (got c) ⊳= (λ g. found 23 (shown_sheet h.verdict) ⊳= (λ x. written_to a (written_bytes q g x)))))
        ≡ answered a (c >>= (λ g. held 23 h.verdict >>= (λ v. sheet_shown v >>= (λ x. guard 12 (leb (length (written_bytes q g x)) (length a)) >> ok (written_bytes q g x))))) (wrote a)
    asked m q (ok g) e = shown q g h.verdict
    asked m q (refused k) e = ap (λ n. record { answer = refuse n; buffer = a }) (sym ((goal_only m q.start q.root).number e))

    by : (o : Option Model) (p : Option Question)
        → replied a (run (found 20 o ⊳= (λ m. found 21 p ⊳= (λ q. found 22 (got (goal m q.start q.root)) ⊳= (λ g. found 23 (shown_sheet h.verdict) ⊳= (λ x. written_to a (written_bytes q g x)))))))
        ≡ answered a (held 20 o >>= (λ m. held 21 p >>= (λ q. goal m q.start q.root >>= (λ g. held 23 h.verdict >>= (λ v. sheet_shown v >>= (λ x. guard 12 (leb (length (written_bytes q g x)) (length a)) >> ok (written_bytes q g x))))))) (wrote a)
    by none p = refl
    by (some m) none = refl
    by (some m) (some q) = asked m q (goal m q.start q.root) refl

-- The plan on a sheet, and what is reported of it.
module _ (m : Model) (q : Question) (g : Goal) (b : Bytes) where
  abbrev claimed : Sheet
  claimed = sheet_of b

  abbrev spelled : Checked (Plan g.steps)
  spelled = plan_of m g.steps q.start claimed.choices

  weighed : (c : Checked (Plan g.steps)) → spelled ≡ c
      → replied [] (run (found 10 (got c) ⊳= (λ π. tests (11 unless same claimed.weight (g.total π) ∷ []) ⊳ value π) ⊳= (λ π. value (says (accepted (reported g π))))))
      ≡ answered [] (c >>= (λ π. guard 11 (same claimed.weight (g.total π)) >> ok (reported g π))) (λ r. says (accepted r))
  unfolding run got
  weighed (ok π) e = by (same claimed.weight (g.total π))
    where
      by : (t : Bool) → replied [] (cond t (ok (says (accepted (reported g π)))) (refused 11)) ≡ answered [] (guard 11 t >> ok (reported g π)) (λ r. says (accepted r))
      by true = refl
      by false = refl
  weighed (refused k) e = ap (λ n. says (refuse n)) (sym ((plan_only m g.steps q.start claimed.choices).number e))

  sheet_checked : replied [] (run (accepted_plan m q g b ⊳= (λ π. value (says (accepted (reported g π))))))
      ≡ answered [] (read_sheet g.steps q.start b >>= (λ x. plan_of m g.steps q.start x.choices >>= (λ π. guard 11 (same x.weight (g.total π)) >> ok (reported g π)))) (λ r. says (accepted r))
  unfolding accepted_plan read_sheet
  sheet_checked =
      tests_then [] (λ r. says (accepted r)) (sheet_grounds g.steps q.start b) claimed _
      (λ x. plan_of m g.steps q.start x.choices >>= (λ π. guard 11 (same x.weight (g.total π)) >> ok (reported g π)))
      (weighed spelled refl)

yields_check : (h : Held) (b : Bytes) → yields h (query (check b)) ≡ by_chain h (query (check b))
unfolding yields described by_chain lent do_check check_on run got limits
yields_check h b = by h.model h.question
  where
    asked : (m : Model) (q : Question) (c : Checked Goal) → goal m q.start q.root ≡ c
        → replied [] (run (found 22 (got c) ⊳= (λ g. tests (limit_grounds m q.nodes) ⊳ (accepted_plan m q g b ⊳= (λ π. value (says (accepted (reported g π))))))))
        ≡ answered [] (c >>= (λ g. limits m q.nodes >> (read_sheet g.steps q.start b >>= (λ x. plan_of m g.steps q.start x.choices >>= (λ π. guard 11 (same x.weight (g.total π)) >> ok (reported g π)))))) (λ r. says (accepted r))
    asked m q (ok g) e =
        let d : Checked Report = read_sheet g.steps q.start b >>= (λ x. plan_of m g.steps q.start x.choices >>= (λ π. guard 11 (same x.weight (g.total π)) >> ok (reported g π))) in
        tests_then [] (λ r. says (accepted r)) (limit_grounds m q.nodes) tt (accepted_plan m q g b ⊳= (λ π. value (says (accepted (reported g π))))) (λ u. d) (sheet_checked m q g b)
        ∙ ap (λ c. answered [] c (λ r. says (accepted r))) (sym (then_bind (limits m q.nodes) d))
    asked m q (refused k) e = ap (λ n. says (refuse n)) (sym ((goal_only m q.start q.root).number e))

    by : (o : Option Model) (p : Option Question)
        → replied [] (run (found 20 o ⊳= (λ m. found 21 p ⊳= (λ q. found 22 (got (goal m q.start q.root)) ⊳= (λ g. tests (limit_grounds m q.nodes) ⊳ (accepted_plan m q g b ⊳= (λ π. value (says (accepted (reported g π))))))))))
        ≡ answered [] (held 20 o >>= (λ m. held 21 p >>= (λ q. check_on m q b))) (λ r. says (accepted r))
    by none p = refl
    by (some m) none = refl
    by (some m) (some q) = asked m q (goal m q.start q.root) refl

yields_write_model : (h : Held) (a : Bytes) → yields h (query (write_model a)) ≡ by_chain h (query (write_model a))
unfolding yields described by_chain lent do_write_model run
yields_write_model h a = by h.model
  where
    by : (o : Option Model)
        → replied a (run (found 20 o ⊳= (λ m. written_to a h.blocks)))
        ≡ answered a (held 20 o >>= (λ m. guard 12 (leb (length h.blocks) (length a)) >> ok h.blocks)) (wrote a)
    by none = refl
    by (some m) = writes a h.blocks

-- The calls as described are the chains.
pub yields_is : (h : Held) (c : Call) → yields h c ≡ by_chain h c
yields_is h (load b) = yields_load h b
yields_is h (put b) = yields_put h b
yields_is h judge = yields_judge h
yields_is h (query (write a)) = yields_write h a
yields_is h (query (check b)) = yields_check h b
yields_is h (query (write_model a)) = yields_write_model h a

-- ---- refusals

is_refusal : Answer → Bool
is_refusal done = false
is_refusal (judged v) = false
is_refusal (written n) = false
is_refusal (accepted r) = false
is_refusal (refuse k) = true

-- Each ground has a number of the list, and what stands behind them is no refusal.
is_listed : List ℕ → Tested Reply → Bool
is_listed l (value r) = not (is_refusal r.answer)
is_listed l (fails k) = any (eqb k) l
is_listed l (test g c) = any (eqb g.number) l && is_listed l c

all_listed : (h : Held) (c : Call) → is_listed (listed c) (described h c) ≡ true
unfolding is_listed is_refusal described listed any got shown_sheet accepted_plan
all_listed h (load b) = refl
all_listed h (put b) = by h.model
  where
    by : (o : Option Model)
        → is_listed (listed (put b)) (found 20 o ⊳= (λ m. tests (question_grounds (length m.states) (length m.actions) m.propositions b) ⊳ value (says done))) ≡ true
    by none = refl
    by (some m) = refl
all_listed h judge = by h.model h.question
  where
    by : (o : Option Model) (p : Option Question)
        → is_listed (listed judge) (found 20 o ⊳= (λ m. found 21 p ⊳= (λ q. tests (limit_grounds m q.nodes) ⊳ value (says (judged (verdict m q.start q.root)))))) ≡ true
    by none p = refl
    by (some m) none = refl
    by (some m) (some q) = refl
all_listed h (query (write a)) = by h.model h.question
  where
    shown : (q : Question) (g : Goal) (o : Option Sheet)
        → is_listed (listed (query (write a))) (found 23 o ⊳= (λ x. written_to a (written_bytes q g x))) ≡ true
    shown q g none = refl
    shown q g (some x) = refl

    asked : (q : Question) (o : Option Goal)
        → is_listed (listed (query (write a))) (found 22 o ⊳= (λ g. found 23 (shown_sheet h.verdict) ⊳= (λ x. written_to a (written_bytes q g x)))) ≡ true
    asked q none = refl
    asked q (some g) = shown q g (shown_sheet h.verdict)

    by : (o : Option Model) (p : Option Question)
        → is_listed (listed (query (write a))) (found 20 o ⊳= (λ m. found 21 p ⊳= (λ q. found 22 (got (goal m q.start q.root)) ⊳= (λ g. found 23 (shown_sheet h.verdict) ⊳= (λ x. written_to a (written_bytes q g x)))))) ≡ true
    by none p = refl
    by (some m) none = refl
    by (some m) (some q) = asked q (got (goal m q.start q.root))
all_listed h (query (check b)) = by h.model h.question
  where
    spelt : (m : Model) (q : Question) (g : Goal) (o : Option (Plan g.steps))
        → is_listed (listed (query (check b))) (found 10 o ⊳= (λ π. tests (11 unless same (sheet_of b).weight (g.total π) ∷ []) ⊳ value π) ⊳= (λ π. value (says (accepted (reported g π))))) ≡ true
    spelt m q g none = refl
    spelt m q g (some π) = refl

    asked : (m : Model) (q : Question) (o : Option Goal)
        → is_listed (listed (query (check b))) (found 22 o ⊳= (λ g. tests (limit_grounds m q.nodes) ⊳ (accepted_plan m q g b ⊳= (λ π. value (says (accepted (reported g π))))))) ≡ true
    asked m q none = refl
    asked m q (some g) = spelt m q g (got (plan_of m g.steps q.start (sheet_of b).choices))

    by : (o : Option Model) (p : Option Question)
        → is_listed (listed (query (check b))) (found 20 o ⊳= (λ m. found 21 p ⊳= (λ q. found 22 (got (goal m q.start q.root)) ⊳= (λ g. tests (limit_grounds m q.nodes) ⊳ (accepted_plan m q g b ⊳= (λ π. value (says (accepted (reported g π))))))))) ≡ true
    by none p = refl
    by (some m) none = refl
    by (some m) (some q) = asked m q (got (goal m q.start q.root))
all_listed h (query (write_model a)) = by h.model
  where
    by : (o : Option Model) → is_listed (listed (query (write_model a))) (found 20 o ⊳= (λ m. written_to a h.blocks)) ≡ true
    by none = refl
    by (some m) = refl

-- A refusal by the tests has a listed number.
listed_number : (l : List ℕ) (c : Tested Reply) → is_listed l c ≡ true → (k : ℕ) → run c ≡ refused k → any (eqb k) l ≡ true
unfolding is_listed run
listed_number l (value r) i k e = absurd (not_refused e)
listed_number l (fails j) i k e = subst (λ n. any (eqb n) l ≡ true) (refused_same e) i
listed_number l (test g c) i k e = let w = and_both (any (eqb g.number) l) _ i in by g.passes w.0 (λ z. listed_number l c w.1 k z) e
  where
    by : (t : Bool) → any (eqb g.number) l ≡ true → (run c ≡ refused k → any (eqb k) l ≡ true) → cond t (run c) (refused g.number) ≡ refused k → any (eqb k) l ≡ true
    by true i h e = h e
    by false i h e = subst (λ n. any (eqb n) l ≡ true) (refused_same e) i

-- A value behind the tests is no refusal.
value_said : (l : List ℕ) (c : Tested Reply) → is_listed l c ≡ true → (r : Reply) → run c ≡ ok r → is_refusal r.answer ≡ false
unfolding is_listed run
value_said l (value r) i x e = subst (λ z. is_refusal z.answer ≡ false) (ok_same e) (turned (is_refusal r.answer) i)
  where
    turned : (t : Bool) → not t ≡ true → t ≡ false
    turned true e = absurd (false≢true e)
    turned false e = refl
value_said l (fails j) i x e = absurd (not_ok e)
value_said l (test g c) i x e = by g.passes (λ z. value_said l c (and_both (any (eqb g.number) l) _ i).1 x z) e
  where
    by : (t : Bool) → (run c ≡ ok x → is_refusal x.answer ≡ false) → cond t (run c) (refused g.number) ≡ ok x → is_refusal x.answer ≡ false
    by true h e = h e
    by false h e = absurd (not_ok e)

-- A call is answered by a refusal exactly where its tests refuse it.
pub refuse_run : (h : Held) (c : Call) (k : ℕ) → ((yields h c).answer ≡ refuse k) ↔ (run (described h c) ≡ refused k)
unfolding yields is_refusal
refuse_run h c k = (λ e. by (run (described h c)) refl e, λ e. ap (λ r. (replied (lent c) r).answer) e)
  where
    number : {j : ℕ} → refuse j ≡ refuse k → j ≡ k
    number e = cc

    by : (r : Checked Reply) → run (described h c) ≡ r → (replied (lent c) r).answer ≡ refuse k → r ≡ refused k
    by (ok x) i e = absurd (false≢true (sym (value_said (listed c) (described h c) (all_listed h c) x i) ∙ ap is_refusal e))
    by (refused j) i e = ap refused (number e)

-- Where a call is refused, the lent buffer is as it was found, and the number is listed for it.
pub refuse_listed : (h : Held) (c : Call) (k : ℕ) → (yields h c).answer ≡ refuse k → ((yields h c).buffer ≡ lent c) × (any (eqb k) (listed c) ≡ true)
unfolding yields
refuse_listed h c k e =
    let r = (refuse_run h c k).0 e in
    (ap (λ z. (replied (lent c) z).buffer) r, listed_number (listed c) (described h c) (all_listed h c) k r)

-- ... and with the first of its grounds that applies.
pub refuse_first : (h : Held) (c : Call) (k : ℕ) → ((yields h c).answer ≡ refuse k) ↔ (first (grounds (described h c)) ≡ some k)
refuse_first h c k =
    let a = refuse_run h c k in
    let b = first_refused (described h c) k in
    (λ e. b.0 (a.0 e), λ e. a.1 (b.1 e))
