-- The contents told by the history change with each call as the call says: a load that is done replaces all, a put that is done the
-- question and the verdict, a judge that is not refused the verdict; every other call leaves them. The last call of the longer list is
-- looked at first: if it leaves something, nothing is since; if not, it is added to the calls since.
use Prim.Native.Nat.{ℕ}
use mathlib.Core.Path.{◌≡◌, refl, sym, ap, ap₂, subst, ◌∙◌}
use mathlib.Core.Bool.{Bool, true, false, cond, ◌&&◌, ◌||◌, or-false, or-true, and-false}
use mathlib.Core.List.{List, [], ◌∷◌, ◌++◌}
use mathlib.Core.Option.{Option, none, some}
use Rattle.logic.specs.Lists.{any}
use Rattle.logic.specs.Checked.{Checked, ok, refused, ◌>>=◌, ◌>>◌, got}
use Rattle.logic.specs.promises.Refusal.{held}
use Rattle.logic.specs.Model.{Model}
use Rattle.logic.specs.Verdict.{Verdict, verdict}
use Rattle.logic.specs.Limits.{limits}
use Rattle.logic.proofs.Checked.{got_some}
use Rattle.logic.proofs.Tests.{none≢some, some_same}
use Rattle.models.specs.Grounds.{read_model}
use Rattle.questions.specs.Layout.{Question}
use Rattle.blocks.specs.Bytes.{Bytes}
use Rattle.protocol.specs.Calls.{Call, load, put, judge, query, Held, question_for}
use Rattle.protocol.specs.promises.Chains.{do_put, do_judge}
use Rattle.protocol.specs.History.{Loaded, with_blocks, loaded, asked, is_judge, or_else, last_left, passed, verdict_since, held_since, held_from, after}

-- What a call leaves, or the contents as they were if it was refused.
abbrev pub settled : {A : Type 0} → Held → Checked A → (A → Held) → Held
settled h (ok a) f = f a
settled h (refused k) f = h

-- The contents after one call more.
unfoldable pub next : Held → Call → Held
next h (load b) = settled h (read_model b) (λ m. record { model = some m; blocks = b; question = none; verdict = none })
next h (put b) = settled h (do_put h b) (λ q. record { model = h.model; blocks = h.blocks; question = some q; verdict = none })
next h judge = settled h (do_judge h) (λ v. record { model = h.model; blocks = h.blocks; question = h.question; verdict = some v })
next h (query c) = h

-- ---- one call more

module _ {A : Type 0} where
  -- The call comes after those since.
  longer : Call → Option (A × List Call) → Option (A × List Call)
  longer c none = none
  longer c (some x) = some (x.0, x.1 ++ (c ∷ []))

  last_left_new : (f : Call → Option A) (cs : List Call) (c : Call) {a : A} → f c ≡ some a → last_left f (cs ++ (c ∷ [])) ≡ some (a, [])
  unfolding last_left or_else
  last_left_new f [] c e = ap (λ o. or_else none o []) e
  last_left_new f (d ∷ cs) c e = ap (λ o. or_else o (f d) (cs ++ (c ∷ []))) (last_left_new f cs c e)

  last_left_old : (f : Call → Option A) (cs : List Call) (c : Call) → f c ≡ none → last_left f (cs ++ (c ∷ [])) ≡ longer c (last_left f cs)
  unfolding last_left or_else longer
  last_left_old f [] c e = ap (λ o. or_else none o []) e
  last_left_old f (d ∷ cs) c e = ap (λ o. or_else o (f d) (cs ++ (c ∷ []))) (last_left_old f cs c e) ∙ step (last_left f cs) (f d)
    where
      step : (o : Option (A × List Call)) (p : Option A) → or_else (longer c o) p (cs ++ (c ∷ [])) ≡ longer c (or_else o p cs)
      step none none = refl
      step none (some a) = refl
      step (some x) p = refl

any_more : (cs : List Call) (c : Call) → any is_judge (cs ++ (c ∷ [])) ≡ (any is_judge cs || is_judge c)
unfolding any
any_more [] c = or-false (is_judge c)
any_more (d ∷ cs) c = ap (λ t. is_judge d || t) (any_more cs c) ∙ assoc (is_judge d)
  where
    assoc : (a : Bool) → (a || (any is_judge cs || is_judge c)) ≡ ((a || any is_judge cs) || is_judge c)
    assoc true = refl
    assoc false = refl

-- ---- a call that leaves nothing and does not judge

module _ (c : Call) (e : is_judge c ≡ false) where
  verdict_same : (m : Model) (q : Question) (since : List Call) → verdict_since m q (since ++ (c ∷ [])) ≡ verdict_since m q since
  unfolding verdict_since
  verdict_same m q since =
      ap (λ t. cond (t && passed (limits m q.nodes)) (some (verdict m q.start q.root)) none)
      (any_more since c ∙ ap (λ t. any is_judge since || t) e ∙ or-false (any is_judge since))

  held_since_same : (l : Loaded) (o : Option (Question × List Call)) → held_since l (longer c o) ≡ held_since l o
  unfolding held_since longer
  held_since_same l none = refl
  held_since_same l (some x) = ap (λ v. record { model = some l.model; blocks = l.blocks; question = some x.0; verdict = v }) (verdict_same l.model x.0 x.1)

  held_from_same : (o : Option (Loaded × List Call)) → ((l : Loaded) (since : List Call) → o ≡ some (l, since) → asked l.model c ≡ none) → held_from (longer c o) ≡ held_from o
  unfolding held_from longer
  held_from_same none h = refl
  held_from_same (some x) h = ap (held_since x.0) (last_left_old (asked x.0.model) x.1 c (h x.0 x.1 refl)) ∙ held_since_same x.0 (last_left (asked x.0.model) x.1)

  after_same : (cs : List Call) → loaded c ≡ none → ((l : Loaded) (since : List Call) → last_left loaded cs ≡ some (l, since) → asked l.model c ≡ none) → after (cs ++ (c ∷ [])) ≡ after cs
  unfolding after
  after_same cs l h = ap held_from (last_left_old loaded cs c l) ∙ held_from_same (last_left loaded cs) h

-- ---- each call

after_load : (cs : List Call) (b : Bytes) (r : Checked Model) → read_model b ≡ r
    → after (cs ++ (load b ∷ [])) ≡ settled (after cs) r (λ m. record { model = some m; blocks = b; question = none; verdict = none })
unfolding loaded got asked is_judge after held_from held_since last_left
after_load cs b (ok m) e = ap held_from (last_left_new loaded cs (load b) (ap got (ap (with_blocks b) e)))
after_load cs b (refused k) e = after_same (load b) refl cs (ap got (ap (with_blocks b) e)) (λ l since i. refl)

-- With a model held, its contents by what was asked since.
pub held_loaded : (l : Loaded) (o : Option (Question × List Call)) → ((held_since l o).model ≡ some l.model) × ((held_since l o).blocks ≡ l.blocks)
unfolding held_since
held_loaded l none = (refl, refl)
held_loaded l (some x) = (refl, refl)

abbrev put_on : Held → Option Model → Bytes → Bytes → Held
put_on h o blocks b = settled h (held 20 o >>= (λ m. question_for m b)) (λ q. record { model = o; blocks = blocks; question = some q; verdict = none })

put_since : (l : Loaded) (since : List Call) (b : Bytes) (r : Checked Question) → question_for l.model b ≡ r
    → held_since l (last_left (asked l.model) (since ++ (put b ∷ [])))
    ≡ settled (held_since l (last_left (asked l.model) since)) r (λ q. record { model = some l.model; blocks = l.blocks; question = some q; verdict = none })
unfolding asked got held_since verdict_since any is_judge
put_since l since b (ok q) e = ap (held_since l) (last_left_new (asked l.model) since (put b) (ap got e))
put_since l since b (refused k) e = ap (held_since l) (last_left_old (asked l.model) since (put b) (ap got e)) ∙ held_since_same (put b) refl l (last_left (asked l.model) since)

after_put : (b : Bytes) (o : Option (Loaded × List Call)) → held_from (longer (put b) o) ≡ put_on (held_from o) (held_from o).model (held_from o).blocks b
unfolding held_from longer
after_put b none = refl
after_put b (some x) =
    let h : Held = held_since x.0 (last_left (asked x.0.model) x.1) in
    let l = held_loaded x.0 (last_left (asked x.0.model) x.1) in
    put_since x.0 x.1 b (question_for x.0.model b) refl ∙ ap₂ (λ o c. put_on h o c b) (sym l.0) (sym l.1)

abbrev judge_on : Held → Option Model → Bytes → Option Question → Held
judge_on h o blocks p =
    settled h (held 20 o >>= (λ m. held 21 p >>= (λ q. limits m q.nodes >> ok (verdict m q.start q.root)))) (λ v. record { model = o; blocks = blocks; question = p; verdict = some v })

-- The verdict once judged, by whether the limits are kept.
module _ (m : Model) (q : Question) (since : List Call) where
  verdict_kept : limits m q.nodes ≡ ok tt → any is_judge since ≡ true → verdict_since m q since ≡ some (verdict m q.start q.root)
  unfolding verdict_since passed
  verdict_kept e j = ap₂ (λ t r. cond (t && passed r) (some (verdict m q.start q.root)) none) j e

  verdict_limited : {k : ℕ} → limits m q.nodes ≡ refused k → verdict_since m q since ≡ none
  unfolding verdict_since passed
  verdict_limited e =
      ap (λ r. cond (any is_judge since && passed r) (some (verdict m q.start q.root)) none) e
      ∙ ap (λ t. cond t (some (verdict m q.start q.root)) none) (and-false (any is_judge since))

judge_since : (l : Loaded) (o : Option (Question × List Call)) → held_since l (longer judge o) ≡ judge_on (held_since l o) (some l.model) l.blocks (held_since l o).question
unfolding held_since longer is_judge
judge_since l none = refl
judge_since l (some x) = limited (limits m x.0.nodes) refl
  where
    m : Model
    m = l.model

    with_verdict : Option Verdict → Held
    with_verdict v = record { model = some m; blocks = l.blocks; question = some x.0; verdict = v }

    limited : (r : Checked (Unit {0})) → limits m x.0.nodes ≡ r
        → with_verdict (verdict_since m x.0 (x.1 ++ (judge ∷ [])))
        ≡ settled (with_verdict (verdict_since m x.0 x.1)) (r >> ok (verdict m x.0.start x.0.root)) (λ v. with_verdict (some v))
    limited (ok u) e = ap with_verdict (verdict_kept m x.0 (x.1 ++ (judge ∷ [])) e (any_more x.1 judge ∙ or-true (any is_judge x.1)))
    limited (refused k) e = ap with_verdict (verdict_limited m x.0 (x.1 ++ (judge ∷ [])) e ∙ sym (verdict_limited m x.0 x.1 e))

after_judge : (o : Option (Loaded × List Call)) → held_from (longer judge o) ≡ judge_on (held_from o) (held_from o).model (held_from o).blocks (held_from o).question
unfolding held_from longer asked
after_judge none = refl
after_judge (some x) =
    let o : Option (Question × List Call) = last_left (asked x.0.model) x.1 in
    let h : Held = held_since x.0 o in
    let l = held_loaded x.0 o in
    ap (held_since x.0) (last_left_old (asked x.0.model) x.1 judge refl)
    ∙ judge_since x.0 o
    ∙ ap₂ (λ p b. judge_on h p b h.question) (sym l.0) (sym l.1)

pub after_next : (cs : List Call) (c : Call) → after (cs ++ (c ∷ [])) ≡ next (after cs) c
unfolding next loaded asked is_judge after do_put do_judge
after_next cs (load b) = after_load cs b (read_model b) refl
after_next cs (put b) = ap held_from (last_left_old loaded cs (put b) refl) ∙ after_put b (last_left loaded cs)
after_next cs judge = ap held_from (last_left_old loaded cs judge refl) ∙ after_judge (last_left loaded cs)
after_next cs (query c) = after_same (query c) refl cs refl (λ l since i. refl)

-- ---- what is held was read, and judged

cond_some : {A : Type 0} (t : Bool) {a b : A} → cond t (some a) none ≡ some b → a ≡ b
cond_some true e = some_same e
cond_some false e = absurd (none≢some e)

module _ (m : Model) (q : Question) (v : Verdict) where
  told_since : (n : Loaded) (o : Option (Question × List Call)) → (held_since n o).model ≡ some m → (held_since n o).question ≡ some q → (held_since n o).verdict ≡ some v
      → v ≡ verdict m q.start q.root
  unfolding held_since verdict_since
  told_since n none e f g = absurd (none≢some g)
  told_since n (some x) e f g = sym (cond_some (any is_judge x.1 && passed (limits n.model x.0.nodes)) g) ∙ ap₂ (λ k r. verdict k r.start r.root) (some_same e) (some_same f)

  told_from : (o : Option (Loaded × List Call)) → (held_from o).model ≡ some m → (held_from o).question ≡ some q → (held_from o).verdict ≡ some v → v ≡ verdict m q.start q.root
  unfolding held_from
  told_from none e f g = absurd (none≢some e)
  told_from (some x) e f g = told_since x.0 (last_left (asked x.0.model) x.1) e f g

  -- A verdict that is held is that on the held question.
  verdict_told : (cs : List Call) → (after cs).model ≡ some m → (after cs).question ≡ some q → (after cs).verdict ≡ some v → v ≡ verdict m q.start q.root
  unfolding after
  verdict_told cs e f g = told_from (last_left loaded cs) e f g

last_left_some : {A : Type 0} (f : Call → Option A) (cs : List Call) {x : A × List Call} → last_left f cs ≡ some x → (c : Call) × (f c ≡ some x.0)
unfolding last_left or_else
last_left_some f [] e = absurd (none≢some e)
last_left_some {A = A} f (d ∷ cs) {x} e = pick (last_left f cs) (f d) (λ y h. last_left_some f cs h) refl e
  where
    pick : (o : Option (A × List Call)) (p : Option A) → ((y : A × List Call) → o ≡ some y → (c : Call) × (f c ≡ some y.0)) → f d ≡ p → or_else o p cs ≡ some x
        → (c : Call) × (f c ≡ some x.0)
    pick (some y) p k h e = k x e
    pick none none k h e = absurd (none≢some e)
    pick none (some a) k h e = (d, h ∙ ap some (ap (λ z. z.0) (some_same e)))

-- ---- a held model and question were read from some bytes

-- What a load leaves is the model that its bytes are read as, and these.
loaded_is : (b : Bytes) (r : Checked Model) → read_model b ≡ r → {l : Loaded} → got (with_blocks b r) ≡ some l → read_model l.blocks ≡ ok l.model
unfolding got
loaded_is b (ok m) e i = subst (λ x. read_model x.blocks ≡ ok x.model) (some_same i) e
loaded_is b (refused k) e i = absurd (none≢some i)

loaded_read : (c : Call) {l : Loaded} → loaded c ≡ some l → read_model l.blocks ≡ ok l.model
unfolding loaded
loaded_read (load b) e = loaded_is b (read_model b) refl e
loaded_read (put b) e = absurd (none≢some e)
loaded_read (query c) e = absurd (none≢some e)
loaded_read judge e = absurd (none≢some e)

asked_read : (n : Model) (c : Call) {q : Question} → asked n c ≡ some q → (b : Bytes) × (question_for n b ≡ ok q)
unfolding asked
asked_read n (load b) e = absurd (none≢some e)
asked_read n (put b) e = (b, got_some (question_for n b) e)
asked_read n (query c) e = absurd (none≢some e)
asked_read n judge e = absurd (none≢some e)

model_told : (cs : List Call) (m : Model) → (after cs).model ≡ some m → read_model (after cs).blocks ≡ ok m
unfolding after held_from
model_told cs m e = from (last_left loaded cs) refl e
  where
    from : (o : Option (Loaded × List Call)) → last_left loaded cs ≡ o → (held_from o).model ≡ some m → read_model (held_from o).blocks ≡ ok m
    from none i h = absurd (none≢some h)
    from (some x) i h =
        let c = last_left_some loaded cs i in
        let l = held_loaded x.0 (last_left (asked x.0.model) x.1) in
        ap read_model l.1 ∙ loaded_read c.0 c.1 ∙ ap ok (some_same (sym l.0 ∙ h))

question_told : (cs : List Call) (m : Model) (q : Question) → (after cs).model ≡ some m → (after cs).question ≡ some q → (b : Bytes) × (question_for m b ≡ ok q)
unfolding after held_from held_since
question_told cs m q e f = from (last_left loaded cs) e f
  where
    since : (n : Loaded) (l : List Call) (o : Option (Question × List Call)) → last_left (asked n.model) l ≡ o → (held_since n o).question ≡ some q
        → (b : Bytes) × (question_for n.model b ≡ ok q)
    since n l none i h = absurd (none≢some h)
    since n l (some x) i h = let c = last_left_some (asked n.model) l i in asked_read n.model c.0 (c.1 ∙ h)

    from : (o : Option (Loaded × List Call)) → (held_from o).model ≡ some m → (held_from o).question ≡ some q → (b : Bytes) × (question_for m b ≡ ok q)
    from none h k = absurd (none≢some h)
    from (some x) h k =
        let o : Option (Question × List Call) = last_left (asked x.0.model) x.1 in
        subst (λ n. (b : Bytes) × (question_for n b ≡ ok q)) (some_same (sym (held_loaded x.0 o).0 ∙ h)) (since x.0 x.1 o refl k)

-- ---- what is held, whatever the list

-- What a desk that calls gave back holds: a model that was read from the blocks beside it, a question that was read from some bytes, and the
-- verdict on them.
pub record Sound (h : Held) : Type 0 where
  pub model_read : (m : Model) → h.model ≡ some m → read_model h.blocks ≡ ok m
  pub question_read : (m : Model) (q : Question) → h.model ≡ some m → h.question ≡ some q → (b : Bytes) × (question_for m b ≡ ok q)
  pub verdict_is : (m : Model) (q : Question) (v : Verdict) → h.model ≡ some m → h.question ≡ some q → h.verdict ≡ some v
      → v ≡ verdict m q.start q.root

pub sound : (cs : List Call) → Sound (after cs)
sound cs = record { model_read = model_told cs; question_read = question_told cs; verdict_is = λ m q v. verdict_told m q v cs }
