-- One claim about every list of calls of the code: its answers, its buffers and what the desk then holds are those told by the history
-- (`protocol`, `History.after`). By the exact values of the contracts each call is a step of `Session`, and `DesksHoldHistory` has the rest.
use mathlib.Core.Path.{◌≡◌, refl, sym, ap, ap₂, subst, ◌∙◌}
use mathlib.Core.List.{List, [], ◌∷◌, ◌++◌, append-nil, append_assoc}
use lib.ListN.{length}
use Rattle.blocks.specs.Bytes.{Bytes}
use Rattle.protocol.specs.Calls.{Query, write, check, write_model, Call, load, put, judge, query, Reply, says, yields}
use Rattle.protocol.specs.History.{after}
use Rattle.protocol.specs.Replies.{Session}
use Rattle.plan_judge.specs.declared.Desk.{Desk}
use Rattle.plan_judge.specs.declared.Taking.{Taking}
use Rattle.plan_judge.specs.declared.Judging.{Judging}
use Rattle.std.specs.Prelude.{ℕ, Result}
use Rattle.refusals.specs.declared.Refusal.{Refusal}
use Rattle.plan_judge.specs.declared.Report.{Report}
use Rattle.plan_judge.specs.View.{view}
use Rattle.plan_judge.specs.promises.Values.{nothing, loaded_by, put_by, judged_by, written_by, filled_by, model_written_by, model_filled_by, checked_by}
use Rattle.plan_judge.specs.Said.{said_taken, said_judgement, said_written, said_checking}
use Rattle.plan_judge.specs.promises.Session.{asked, step, desk_after}
use Rattle.protocol.specs.Replies.{replies_after, replies_to}
use Rattle.plan_judge.proofs.DesksHoldHistory.{replies, desk_holds}
use Rattle.plan_judge.proofs.Claims.Ran.{Slice, Buffer, Asked, writes, checks, writes_model, Answered, loads, puts, judges, asks, Ran, began, further, Described, OfTheCode}
use Rattle.plan_judge.proofs.Claims.Demand1.{Next}
use Rattle.plan_judge.proofs.Claims.Delivery.{There}

-- ---- one call

-- The reply to a call that writes.
abbrev after_writing : Result ℕ Refusal → Bytes → Reply
after_writing r left = record { answer = said_written r; buffer = left }

-- The contracts ask nothing and give the values of `Session`'s step.
asked_step : {d : Desk} {c : Query} {r : Reply} → Asked d c r → r ≡ asked d c
unfolding asked
asked_step (writes κ a b r p) = ap₂ after_writing (p tt).0 (p tt).1
asked_step (checks κ b r p) = ap (λ (x : Result Report Refusal). says (said_checking x)) (p tt)
asked_step (writes_model κ a b r p) = ap₂ after_writing (p tt).0 (p tt).1

pub stepped : {d : Desk} {c : Call} {r : Reply} {e : Desk} → Answered d c r e → (r ≡ (step d c).reply) × (e ≡ (step d c).desk)
unfolding step
stepped (loads κ b r p) = (ap (λ (x : Taking). says (said_taken x.answer)) (p tt), ap (λ (x : Taking). x.desk) (p tt))
stepped (puts κ b r p) = (ap (λ (x : Taking). says (said_taken x.answer)) (p tt), ap (λ (x : Taking). x.desk) (p tt))
stepped {d} (judges r p) = (ap (λ (x : Judging). says (said_judgement (view d) x.answer x.choices)) (p tt), ap (λ (x : Judging). x.desk) (p tt))
stepped (asks a) = (asked_step a, refl)

-- ---- the lists

desk_more : (d : Desk) (cs : List Call) (c : Call) → desk_after d (cs ++ (c ∷ [])) ≡ (step (desk_after d cs) c).desk
unfolding desk_after
desk_more d [] c = refl
desk_more d (b ∷ cs) c = desk_more (step d b).desk cs c

ran_desk : {cs : List Call} {rs : List Reply} {d : Desk} → Ran cs rs d → d ≡ desk_after nothing cs
unfolding desk_after
ran_desk (began p) = p tt
ran_desk (further {cs = cs} {c = c} h a) = (stepped a).1 ∙ ap (λ d. (step d c).desk) (ran_desk h) ∙ sym (desk_more nothing cs c)

-- The desk after a list of calls holds what the list's history says.
pub every_ran : {cs : List Call} {rs : List Reply} {d : Desk} → Ran cs rs d → view d ≡ after cs
every_ran {cs} h = ap view (ran_desk h) ∙ desk_holds cs

-- A call made then is answered as described by that history: its answer and its buffer.
pub every_answer : {cs : List Call} {rs : List Reply} {d e : Desk} {c : Call} {r : Reply} → Ran cs rs d → Answered d c r e
    → r ≡ yields (after cs) c
every_answer {d = d} {c = c} h a = (stepped a).0 ∙ replies d c ∙ ap (λ k. yields k c) (every_ran h)

replies_more : (before cs : List Call) (c : Call)
    → replies_after before (cs ++ (c ∷ [])) ≡ replies_after before cs ++ (yields (after (before ++ cs)) c ∷ [])
unfolding replies_after
replies_more before [] c = ap (λ l. yields (after l) c ∷ []) (sym (append-nil before))
replies_more before (b ∷ cs) c =
    ap (λ l. yields (after before) b ∷ l)
    (replies_more (before ++ (b ∷ [])) cs c
    ∙ ap (λ l. replies_after (before ++ (b ∷ [])) cs ++ (yields (after l) c ∷ [])) (append_assoc before (b ∷ []) cs))

-- All of a list's replies are the described ones.
pub every_reply : {cs : List Call} {rs : List Reply} {d : Desk} → Ran cs rs d → rs ≡ replies_to cs
unfolding replies_after
every_reply (began p) = refl
every_reply (further {cs = cs} {c = c} h a) = ap₂ (λ x y. x ++ (y ∷ [])) (every_reply h) (every_answer h a) ∙ sym (replies_more [] cs c)

-- The claim.
pub every_list : {cs : List Call} {rs : List Reply} {d : Desk} → Ran cs rs d → Described cs rs d
every_list h = record { answers = every_reply h; contents = every_ran h }

-- ---- no list is left out

-- A slice with these bytes.
abbrev pub slice : Bytes → Slice
slice b = record { ref_ptr = (0, 0); now = b }

-- A buffer with these bytes.
abbrev pub buffer : Bytes → Buffer
buffer b = record { ref_ptr = (0, 0); ghost_name = 0; now = b }

-- Every call is answered.
pub answer_there : (d : Desk) (c : Call) → Next d c
answer_there d (load b) = record { reply = _; desk = _; answered = loads ([], tt) (slice b) (loaded_by d b) (λ _. refl) }
answer_there d (put b) = record { reply = _; desk = _; answered = puts ([], tt) (slice b) (put_by d b) (λ _. refl) }
answer_there d judge = record { reply = _; desk = _; answered = judges (judged_by d) (λ _. refl) }
answer_there d (query (write a)) =
    record { reply = _; desk = _; answered = asks (writes ([], tt) (buffer a) (buffer (filled_by d a)) (written_by d (length a)) (λ _. (refl, refl))) }
answer_there d (query (check b)) = record { reply = _; desk = _; answered = asks (checks ([], tt) (slice b) (checked_by d b) (λ _. refl)) }
answer_there d (query (write_model a)) =
    record { reply = _; desk = _; answered = asks (writes_model ([], tt) (buffer a) (buffer (model_filled_by d a)) (model_written_by d (length a)) (λ _. (refl, refl))) }

there_after : (before : List Call) → There before → (cs : List Call) → There (before ++ cs)
there_after before t [] = subst There (sym (append-nil before)) t
there_after before t (c ∷ cs) =
    let n = answer_there t.desk c in
    subst There (append_assoc before (c ∷ []) cs)
    (there_after (before ++ (c ∷ [])) (record { replies = t.replies ++ (n.reply ∷ []); desk = n.desk; ran = further t.ran n.answered }) cs)

pub ran_there : (cs : List Call) → There cs
ran_there cs = there_after [] (record { replies = []; desk = nothing; ran = began (λ _. refl) }) cs

-- A session that tells the replies of the code tells the described ones: every list of calls can be made, and every call is answered.
pub code_yields : (session : Session) → OfTheCode session → (cs : List Call) (c : Call) → session cs c ≡ yields (after cs) c
code_yields session h cs c =
    let t = ran_there cs in
    let n = answer_there t.desk c in
    h cs t.replies t.desk c n.reply n.desk t.ran n.answered ∙ every_answer t.ran n.answered
