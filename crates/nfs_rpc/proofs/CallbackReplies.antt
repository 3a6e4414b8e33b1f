-- What is read of a record is what the record says to the callback.
use Rattle.std.proofs.Common.{◌≡◌, ℕ, zero, suc, eqb, Bool, true, false, List, ◌++◌, Ok, Err, refl, sym, ap, subst, ◌∙◌, append_assoc, arith, inl, inr, ◌⊎◌}
use Rattle.std.proofs.lemmas.Bool.{eqb-true, ne_eqb}
use Rattle.xdr.specs.declared.wire_error.WireError.{WireError}
use Rattle.xdr.specs.declared.wire_error.WireError.TheVariants as errors
use Rattle.xdr.specs.Layout.{◌⨾◌, U32}
use Rattle.xdr.specs.Form.{Form, u32}
use Rattle.xdr.specs.Reading.{Answers, Begins}
use Rattle.xdr.specs.laws.Reads.{true_or_false, bind_ok, ok_is, Begins-then}
use Rattle.nfs_rpc.specs.declared.reply.TheConstants.{ACCEPTED_GARBAGE_ARGS, ACCEPTED_PROC_UNAVAIL, ACCEPTED_PROG_MISMATCH, ACCEPTED_PROG_UNAVAIL, ACCEPTED_SUCCESS, ACCEPTED_SYSTEM_ERR, DENIED_AUTH_ERROR, DENIED_RPC_MISMATCH, MESSAGE_REPLY, REPLY_ACCEPTED, REPLY_DENIED}
use Rattle.nfs_rpc.specs.Credential.{OpaqueAuth, opaque_auth}
use Rattle.nfs_rpc.specs.Reply.{accepted_reply, denied_reply}
use Rattle.nfs_rpc.specs.CallbackReply.{HasResults, HasStatus, Holds, IsBare, SaysOk, IsReply, IsTakenAs, OK, cb_compound_head, recall_result, versions}
use Rattle.nfs_rpc.specs.ReadingCallbackReplies.{ReplyRead, accepted_at, accepted_head, after_start, denied_at, denied_in_state_at, in_state_at, refused_at, reply_at, reply_of, reply_start, results_at, success_at}
use Rattle.nfs_rpc.proofs.Calls.{reads_there}

-- Layouts in a row: bytes that begin with both begin with the first, and what follows begins with the second.
both : (P Q : List ℕ → Type 0) (bytes rest : List ℕ) → Begins (P ⨾ Q) bytes rest → (mid : List ℕ) × Begins P bytes mid × Begins Q mid rest
both P Q bytes rest h =
    let two = h.2 in
    (two.1 ++ rest, (two.0, h.1 ∙ ap (λ (x : List ℕ). x ++ rest) two.2 ∙ append_assoc two.0 two.1 rest, two.3), (two.1, refl, two.4))

-- three layouts and a fourth one
apart : (P Q R S : List ℕ → Type 0) (bytes rest : List ℕ) → Begins (P ⨾ Q ⨾ R ⨾ S) bytes rest → (mid : List ℕ) × Begins (P ⨾ Q ⨾ R) bytes mid × Begins S mid rest
apart P Q R S bytes rest h =
    let p = both P (Q ⨾ R ⨾ S) bytes rest h in
    let q = both Q (R ⨾ S) p.0 rest p.2 in
    let r = both R S q.0 rest q.2 in
    (r.0, Begins-then P (Q ⨾ R) bytes p.0 r.0 p.1 (Begins-then Q R p.0 q.0 r.0 q.1 r.1), r.2)

together : (P Q R S : List ℕ → Type 0) (bytes mid rest : List ℕ) → Begins (P ⨾ Q ⨾ R) bytes mid → Begins S mid rest → Begins (P ⨾ Q ⨾ R ⨾ S) bytes rest
together P Q R S bytes mid rest h s =
    let p = both P (Q ⨾ R) bytes mid h in
    let q = both Q R p.0 mid p.2 in
    Begins-then P (Q ⨾ R ⨾ S) bytes p.0 rest p.1 (Begins-then Q (R ⨾ S) p.0 q.0 rest q.1 (Begins-then R S q.0 mid rest q.2 s))

-- What is there is read: the reply_stat of a reply, then what follows it.
start_there : (xid stat : ℕ) (bytes mid : List ℕ) → Begins (U32 xid ⨾ U32 MESSAGE_REPLY ⨾ U32 stat) bytes mid → (reply_start xid).at bytes ≡ Ok ((tt, (tt, stat)), mid)
start_there xid stat bytes mid found = reads_there (reply_start xid) bytes (tt, (tt, stat)) mid found

accepted_there : (compound : Bool) (xid state : ℕ) (bytes rest : List ℕ) (verifier : OpaqueAuth) → Begins ((accepted_reply state).layout (xid, verifier)) bytes rest → reply_at compound xid bytes ≡ in_state_at compound state rest
accepted_there compound xid state bytes rest verifier h =
    let s = apart (U32 xid) (U32 MESSAGE_REPLY) (U32 REPLY_ACCEPTED) (opaque_auth.layout verifier ⨾ U32 state) bytes rest h in
    rw (start_there xid REPLY_ACCEPTED bytes s.0 s.1, reads_there accepted_head s.0 (verifier, state) rest s.2) refl

denied_there : (compound : Bool) (xid state : ℕ) (bytes rest : List ℕ) → Begins ((denied_reply state).layout xid) bytes rest → reply_at compound xid bytes ≡ denied_in_state_at state rest
denied_there compound xid state bytes rest h =
    let s = apart (U32 xid) (U32 MESSAGE_REPLY) (U32 REPLY_DENIED) (U32 state) bytes rest h in
    rw (start_there xid REPLY_DENIED bytes s.0 s.1, reads_there u32 s.0 state rest s.2) refl

refused_there : {A : Type 0} (form : Form A) (bytes : List ℕ) → Holds form bytes → refused_at form bytes ≡ Ok false
refused_there form bytes h = rw (reads_there form bytes h.0 h.1 h.2) refl

not_zero : (n : ℕ) → eqb (suc n) 0 ≡ false
not_zero n = ne_eqb (suc n) 0 (λ e. omega (arith, e))

results_there : (status count : ℕ) (bytes : List ℕ) → HasResults count bytes → results_at status count bytes ≡ Ok (eqb status OK)
results_there status zero bytes h = refl
results_there status (suc more) bytes h = rw (not_zero more, reads_there recall_result bytes h.0 h.1 h.2) refl

status_there : (compound : Bool) (status : ℕ) (bytes : List ℕ) → HasStatus compound status bytes → success_at compound bytes ≡ Ok (eqb status OK)
status_there true status bytes h =
    rw (reads_there cb_compound_head bytes (status, (h.0, h.1)) h.2 h.3) (results_there status h.1 h.2 h.4)
status_there false status bytes h = rw h refl

ok_there : (compound : Bool) (xid : ℕ) (bytes : List ℕ) → SaysOk compound xid bytes → reply_at compound xid bytes ≡ Ok true
ok_there compound xid bytes h =
    accepted_there compound xid ACCEPTED_SUCCESS bytes h.1 h.0 h.2 ∙ status_there compound OK h.1 h.3

bare_there : (compound : Bool) (state : ℕ) (bytes : List ℕ) → IsBare state → in_state_at compound state bytes ≡ Ok false
bare_there compound state bytes (inl e) = rw e refl
bare_there compound state bytes (inr (inl e)) = rw e refl
bare_there compound state bytes (inr (inr (inl e))) = rw e refl
bare_there compound state bytes (inr (inr (inr e))) = rw e refl

reply_there : (compound : Bool) (xid : ℕ) (bytes : List ℕ) → IsReply compound xid bytes → (reply : Bool) × (reply_at compound xid bytes ≡ Ok reply)
reply_there compound xid bytes (inl h) =
    (eqb h.0 OK, accepted_there compound xid ACCEPTED_SUCCESS bytes h.1.1 h.1.0 h.1.2 ∙ status_there compound h.0 h.1.1 h.1.3)
reply_there compound xid bytes (inr (inl h)) =
    (false, accepted_there compound xid ACCEPTED_PROG_MISMATCH bytes h.1 h.0 h.2 ∙ refused_there versions h.1 h.3)
reply_there compound xid bytes (inr (inr (inl h))) =
    (false, accepted_there compound xid h.0 bytes h.2.1 h.2.0 h.2.2 ∙ bare_there compound h.0 h.2.1 h.1)
reply_there compound xid bytes (inr (inr (inr (inl h)))) =
    (false, denied_there compound xid DENIED_RPC_MISMATCH bytes h.0 h.1 ∙ refused_there versions h.0 h.2)
reply_there compound xid bytes (inr (inr (inr (inr h)))) =
    (false, denied_there compound xid DENIED_AUTH_ERROR bytes h.0 h.1 ∙ refused_there u32 h.0 h.2)

-- What is read is there.
-- a refusal's form was read
refused_holds : {A : Type 0} (form : Form A) (bytes : List ℕ) (reply : Bool) → refused_at form bytes ≡ Ok reply → Holds form bytes × (false ≡ reply)
refused_holds form bytes reply e =
    let a = bind_ok (form.at bytes) (λ value. Ok false) reply e in
    ((a.0.0, a.0.1, form.reads.sound bytes a.0.0 a.0.1 a.1), ok_is false reply a.2)

results_hold : (status count : ℕ) (bytes : List ℕ) (reply : Bool) → results_at status count bytes ≡ Ok reply → HasResults count bytes × (eqb status OK ≡ reply)
results_hold status zero bytes reply e = (tt, ok_is (eqb status OK) reply e)
results_hold status (suc more) bytes reply e =
    let a = bind_ok (recall_result.at bytes) (λ value. Ok (eqb status OK)) reply (rw (not_zero more) at e) in
    ((a.0.0, a.0.1, recall_result.reads.sound bytes a.0.0 a.0.1 a.1), ok_is (eqb status OK) reply a.2)

status_holds : (compound : Bool) (bytes : List ℕ) (reply : Bool) → success_at compound bytes ≡ Ok reply → (status : ℕ) × HasStatus compound status bytes × (eqb status OK ≡ reply)
status_holds true bytes reply e =
    let a = bind_ok (cb_compound_head.at bytes) (λ h. results_at h.0.0 h.0.1.1 h.1) reply e in
    let results = results_hold a.0.0.0 a.0.0.1.1 a.0.1 reply a.2 in
    (a.0.0.0, (a.0.0.1.0, a.0.0.1.1, a.0.1, cb_compound_head.reads.sound bytes a.0.0 a.0.1 a.1, results.0), results.1)
status_holds false bytes reply e = (OK, refl, ok_is true reply e)

-- what an accepted reply in this state says
abbrev StateSays : Bool → ℕ → List ℕ → Bool → Type 0
StateSays compound state bytes reply =
    ((state ≡ ACCEPTED_SUCCESS) × ((status : ℕ) × HasStatus compound status bytes × (eqb status OK ≡ reply)))
    ⊎ ((state ≡ ACCEPTED_PROG_MISMATCH) × (Holds versions bytes × (false ≡ reply)))
    ⊎ (IsBare state × (false ≡ reply))

bare_says : (compound : Bool) (state : ℕ) (bytes : List ℕ) (reply : Bool) → IsBare state → ◌≡◌ {A = ReplyRead} (Ok false) (Ok reply) → StateSays compound state bytes reply
bare_says compound state bytes reply bare e = inr (inr (bare, ok_is false reply e))

state_says : (compound : Bool) (state : ℕ) (bytes : List ℕ) (reply : Bool) → in_state_at compound state bytes ≡ Ok reply → StateSays compound state bytes reply
state_says compound state bytes reply e =
    elim (true_or_false (eqb state ACCEPTED_SUCCESS)) [
      | inl is ↦ inl (eqb-true _ _ is, status_holds compound bytes reply (rw is at e))
      | inr no0 ↦ elim (true_or_false (eqb state ACCEPTED_PROG_UNAVAIL)) [
        | inl is ↦ bare_says compound state bytes reply (inl (eqb-true _ _ is)) (rw (no0, is) at e)
        | inr no1 ↦ elim (true_or_false (eqb state ACCEPTED_PROG_MISMATCH)) [
          | inl is ↦ inr (inl (eqb-true _ _ is, refused_holds versions bytes reply (rw (no0, no1, is) at e)))
          | inr no2 ↦ elim (true_or_false (eqb state ACCEPTED_PROC_UNAVAIL)) [
            | inl is ↦ bare_says compound state bytes reply (inr (inl (eqb-true _ _ is))) (rw (no0, no1, no2, is) at e)
            | inr no3 ↦ elim (true_or_false (eqb state ACCEPTED_GARBAGE_ARGS)) [
              | inl is ↦ bare_says compound state bytes reply (inr (inr (inl (eqb-true _ _ is)))) (rw (no0, no1, no2, no3, is) at e)
              | inr no4 ↦ elim (true_or_false (eqb state ACCEPTED_SYSTEM_ERR)) [
                | inl is ↦ bare_says compound state bytes reply (inr (inr (inr (eqb-true _ _ is)))) (rw (no0, no1, no2, no3, no4, is) at e)
                | inr no5 ↦ let clash : ◌≡◌ {A = ReplyRead} (Err errors.Short) (Ok reply) = rw (no0, no1, no2, no3, no4, no5) at e in absurd cc
              ]
            ]
          ]
        ]
      ]
    ]

-- What a reply that was read says.
abbrev Says : Bool → ℕ → List ℕ → Bool → Type 0
Says compound xid bytes reply = IsReply compound xid bytes × (reply ≡ true → SaysOk compound xid bytes)

not_ok : (reply : Bool) → false ≡ reply → reply ≡ true → ⊥
not_ok reply refused accepted = let clash : false ≡ true = refused ∙ accepted in cc

accepted_says : (compound : Bool) (xid state : ℕ) (bytes rest : List ℕ) (verifier : OpaqueAuth) (reply : Bool) → Begins ((accepted_reply state).layout (xid, verifier)) bytes rest
    → StateSays compound state rest reply → Says compound xid bytes reply
accepted_says compound xid state bytes rest verifier reply found (inl says) =
    let begins : Begins ((accepted_reply ACCEPTED_SUCCESS).layout (xid, verifier)) bytes rest = subst (λ (n : ℕ). Begins ((accepted_reply n).layout (xid, verifier)) bytes rest) says.0 found in (
      inl (says.1.0, (verifier, rest, begins, says.1.1)),
      λ accepted.
          let status = eqb-true says.1.0 OK (says.1.2 ∙ accepted) in
          (verifier, rest, begins, subst (λ (s : ℕ). HasStatus compound s rest) status says.1.1),
    )
accepted_says compound xid state bytes rest verifier reply found (inr (inl says)) =
    let begins : Begins ((accepted_reply ACCEPTED_PROG_MISMATCH).layout (xid, verifier)) bytes rest = subst (λ (n : ℕ). Begins ((accepted_reply n).layout (xid, verifier)) bytes rest) says.0 found in
    (inr (inl (verifier, rest, begins, says.1.0)), λ accepted. absurd (not_ok reply says.1.1 accepted))
accepted_says compound xid state bytes rest verifier reply found (inr (inr says)) =
    (inr (inr (inl (state, says.0, (verifier, rest, found, tt)))), λ accepted. absurd (not_ok reply says.1 accepted))

accepted_reads : (compound : Bool) (xid : ℕ) (bytes mid : List ℕ) (reply : Bool) → Begins (U32 xid ⨾ U32 MESSAGE_REPLY ⨾ U32 REPLY_ACCEPTED) bytes mid
    → accepted_at compound mid ≡ Ok reply → Says compound xid bytes reply
accepted_reads compound xid bytes mid reply found e =
    let a = bind_ok (accepted_head.at mid) (λ h. in_state_at compound h.0.1 h.1) reply e in
    let verifier = a.0.0.0 in
    let state = a.0.0.1 in
    let head = accepted_head.reads.sound mid a.0.0 a.0.1 a.1 in
    let begins = together (U32 xid) (U32 MESSAGE_REPLY) (U32 REPLY_ACCEPTED) (opaque_auth.layout verifier ⨾ U32 state) bytes mid a.0.1 found head in
    accepted_says compound xid state bytes a.0.1 verifier reply begins (state_says compound state a.0.1 reply a.2)

denied_begins : (xid state : ℕ) (bytes mid rest : List ℕ) → Begins (U32 xid ⨾ U32 MESSAGE_REPLY ⨾ U32 REPLY_DENIED) bytes mid → Begins (u32.layout state) mid rest → Begins ((denied_reply state).layout xid) bytes rest
denied_begins xid state bytes mid rest found head = together (U32 xid) (U32 MESSAGE_REPLY) (U32 REPLY_DENIED) (U32 state) bytes mid rest found head

denied_says : (compound : Bool) (xid state : ℕ) (bytes rest : List ℕ) (reply : Bool) → Begins ((denied_reply state).layout xid) bytes rest
    → denied_in_state_at state rest ≡ Ok reply → Says compound xid bytes reply
denied_says compound xid state bytes rest reply found e =
    elim (true_or_false (eqb state DENIED_RPC_MISMATCH)) [
      | inl is ↦
          let says = refused_holds versions rest reply (rw is at e) in
          let begins : Begins ((denied_reply DENIED_RPC_MISMATCH).layout xid) bytes rest = subst (λ (n : ℕ). Begins ((denied_reply n).layout xid) bytes rest) (eqb-true _ _ is) found in
          (inr (inr (inr (inl (rest, begins, says.0)))), λ accepted. absurd (not_ok reply says.1 accepted))
      | inr no0 ↦ elim (true_or_false (eqb state DENIED_AUTH_ERROR)) [
        | inl is ↦
            let says = refused_holds u32 rest reply (rw (no0, is) at e) in
            let begins : Begins ((denied_reply DENIED_AUTH_ERROR).layout xid) bytes rest = subst (λ (n : ℕ). Begins ((denied_reply n).layout xid) bytes rest) (eqb-true _ _ is) found in
            (inr (inr (inr (inr (rest, begins, says.0)))), λ accepted. absurd (not_ok reply says.1 accepted))
        | inr no1 ↦ let clash : ◌≡◌ {A = ReplyRead} (Err errors.Short) (Ok reply) = rw (no0, no1) at e in absurd cc
      ]
    ]

denied_reads : (compound : Bool) (xid : ℕ) (bytes mid : List ℕ) (reply : Bool) → Begins (U32 xid ⨾ U32 MESSAGE_REPLY ⨾ U32 REPLY_DENIED) bytes mid
    → denied_at mid ≡ Ok reply → Says compound xid bytes reply
denied_reads compound xid bytes mid reply found e =
    let a = bind_ok (u32.at mid) (λ s. denied_in_state_at s.0 s.1) reply e in
    let head = u32.reads.sound mid a.0.0 a.0.1 a.1 in
    denied_says compound xid a.0.0 bytes a.0.1 reply (denied_begins xid a.0.0 bytes mid a.0.1 found head) a.2

stat_says : (compound : Bool) (xid stat : ℕ) (bytes mid : List ℕ) (reply : Bool) → Begins (U32 xid ⨾ U32 MESSAGE_REPLY ⨾ U32 stat) bytes mid
    → after_start compound stat mid ≡ Ok reply → Says compound xid bytes reply
stat_says compound xid stat bytes mid reply found e =
    elim (true_or_false (eqb stat REPLY_ACCEPTED)) [
      | inl is ↦ accepted_reads compound xid bytes mid reply (subst (λ (n : ℕ). Begins (U32 xid ⨾ U32 MESSAGE_REPLY ⨾ U32 n) bytes mid) (eqb-true _ _ is) found) (rw is at e)
      | inr no0 ↦ elim (true_or_false (eqb stat REPLY_DENIED)) [
        | inl is ↦ denied_reads compound xid bytes mid reply (subst (λ (n : ℕ). Begins (U32 xid ⨾ U32 MESSAGE_REPLY ⨾ U32 n) bytes mid) (eqb-true _ _ is) found) (rw (no0, is) at e)
        | inr no1 ↦ let clash : ◌≡◌ {A = ReplyRead} (Err errors.Short) (Ok reply) = rw (no0, no1) at e in absurd cc
      ]
    ]

says : (compound : Bool) (xid : ℕ) (bytes : List ℕ) (reply : Bool) → reply_at compound xid bytes ≡ Ok reply → Says compound xid bytes reply
says compound xid bytes reply e =
    let s = bind_ok ((reply_start xid).at bytes) (λ s. after_start compound s.0.1.1 s.1) reply e in
    stat_says compound xid s.0.0.1.1 bytes s.0.1 reply ((reply_start xid).reads.sound bytes s.0.0 s.0.1 s.1) s.2

-- The two together: each record is reply_stands as it is read.
clash_of : (reply : Bool) (e : WireError) (r : ReplyRead) → r ≡ Err e → r ≡ Ok reply → ⊥
clash_of reply e r failed read = let clash : ◌≡◌ {A = ReplyRead} (Err e) (Ok reply) = sym failed ∙ read in cc

taken_as : (compound : Bool) (xid : ℕ) (bytes : List ℕ) (r : ReplyRead) → reply_at compound xid bytes ≡ r → IsTakenAs compound xid bytes (reply_of r)
taken_as compound xid bytes (Ok true) e = (says compound xid bytes true e).1 refl
taken_as compound xid bytes (Ok false) e =
    ((says compound xid bytes false e).0, λ ok. let clash : ◌≡◌ {A = ReplyRead} (Ok false) (Ok true) = sym e ∙ ok_there compound xid bytes ok in cc)
taken_as compound xid bytes (Err error) e = λ is. let there = reply_there compound xid bytes is in clash_of there.0 error _ e there.1

-- seen by what a function returned
pub reply_stands : (compound : Bool) (xid : ℕ) (bytes : List ℕ) (r : ReplyRead) → Answers (λ (accepts : Bool). accepts) r (reply_at compound xid bytes) → IsTakenAs compound xid bytes (reply_of r)
reply_stands compound xid bytes (Ok accepts) e = taken_as compound xid bytes (Ok accepts) e
reply_stands compound xid bytes (Err error) e = taken_as compound xid bytes (Err error) e
