-- An exchange that goes on.
use Rattle.std.proofs.Common.{◌≡◌, ◌⊎◌, Result, Ok, Err, List, ℕ, Bool, [], ◌∷◌, ◌++◌, refl, sym, subst, inl, inr, ap, ◌+◌, take, drop, ◌∙◌, append_assoc}
use Rattle.std.proofs.lemmas.List.{append-nil, take-append-drop}
use Rattle.std.proofs.Math.Seq.{take-add}
use Rattle.nfs_callbacks.specs.Exchanges.{ComesTo, Conversation, GoesOnBy, HasReply, IsBegun, IsDialed, IsGivenUp, IsOutcome, IsTooLong, IsVerdict, SaysIn, SaysOut}
use Rattle.nfs_callbacks.specs.Faults.{IsAnswer}
use Rattle.nfs_callbacks.specs.Network.{Breaks, HasBroken, Hears, Sends, Talk, Talks, TalksTo, Traffic, heard_in, sent_in}
use Rattle.nfs_callbacks.specs.declared.errand.Errand.{Errand}
use Rattle.nfs_callbacks.specs.declared.exchange.Flow.{Flow}
use Rattle.nfs_callbacks.specs.declared.exchange.Flow.TheVariants as flows
use Rattle.nfs_callbacks.specs.declared.exchange.Progress.{Progress}
use Rattle.nfs_callbacks.specs.declared.exchange.Progress.TheVariants.{UnderWay, Stalled, Ended}
use Rattle.nfs_callbacks.specs.declared.exchange.Verdict.{Verdict}
use Rattle.nfs_callbacks.specs.declared.exchange.Verdict.TheVariants.{Reply, Unfinished, Memory}
use Rattle.nfs_callbacks.specs.declared.fault.Fault.{Fault}
use Rattle.nfs_callbacks.specs.declared.fault.Fault.TheVariants as faults
use Rattle.nfs_callbacks.specs.declared.flow.ConnectError.{ConnectError}
use Rattle.nfs_callbacks.specs.declared.flow.ConnectError.TheVariants as errors

talks_again : {D : Type 0} (carries : D → Traffic → D → Type 0) (client : ℕ) (a b c : D) (talks more : List Talk)
    → TalksTo carries client a talks b → TalksTo carries client b more c → TalksTo carries client a (talks ++ more) c
talks_again carries client a b c [] more is next = subst (λ d. TalksTo carries client d more c) is next
talks_again carries client a b c (talk ∷ talks) more is next =
    (is.0, is.1, talks_again carries client is.0 b c talks more is.2 next)

sent_in-append : (talks more : List Talk) → sent_in (talks ++ more) ≡ sent_in talks ++ sent_in more
sent_in-append [] more = refl
sent_in-append (Sends bytes ∷ talks) more =
    ap (λ l. bytes ++ l) (sent_in-append talks more) ∙ sym (append_assoc bytes (sent_in talks) (sent_in more))
sent_in-append (Hears bytes ∷ talks) more = sent_in-append talks more
sent_in-append (Breaks fault ∷ talks) more = sent_in-append talks more

heard_in-append : (talks more : List Talk) → heard_in (talks ++ more) ≡ heard_in talks ++ heard_in more
heard_in-append [] more = refl
heard_in-append (Sends bytes ∷ talks) more = heard_in-append talks more
heard_in-append (Hears bytes ∷ talks) more =
    ap (λ l. bytes ++ l) (heard_in-append talks more) ∙ sym (append_assoc bytes (heard_in talks) (heard_in more))
heard_in-append (Breaks fault ∷ talks) more = heard_in-append talks more

pub broken_first : (fault : Fault) (talks more : List Talk) → HasBroken fault talks → HasBroken fault (talks ++ more)
broken_first fault [] more h = absurd h
broken_first fault (Sends bytes ∷ talks) more h = broken_first fault talks more h
broken_first fault (Hears bytes ∷ talks) more h = broken_first fault talks more h
broken_first fault (Breaks other ∷ talks) more (inl same) = inl same
broken_first fault (Breaks other ∷ talks) more (inr h) = inr (broken_first fault talks more h)

pub broken_later : (fault : Fault) (talks more : List Talk) → HasBroken fault more → HasBroken fault (talks ++ more)
broken_later fault [] more h = h
broken_later fault (Sends bytes ∷ talks) more h = broken_later fault talks more h
broken_later fault (Hears bytes ∷ talks) more h = broken_later fault talks more h
broken_later fault (Breaks other ∷ talks) more h = inr (broken_later fault talks more h)

-- nothing happens
pub goes_on_same : {D : Type 0} (carries : D → Traffic → D → Type 0) (client : ℕ) (network : D) (c : Conversation)
    → GoesOnBy carries client network c [] network c
goes_on_same carries client network c = record {
  talk = refl;
  goes = record { xid = refl; compound = refl; sent = refl; heard = sym (append-nil c.reply) };
}

-- one thing happens, and then another
pub goes_on_again : {D : Type 0} (carries : D → Traffic → D → Type 0) (client : ℕ) (a b c : D) (x y z : Conversation)
    (talks more : List Talk) → GoesOnBy carries client a x talks b y → GoesOnBy carries client b y more c z
    → GoesOnBy carries client a x (talks ++ more) c z
goes_on_again carries client a b c x y z talks more p q = record {
  talk = talks_again carries client a b c talks more p.talk q.talk;
  goes = record {
    xid = q.goes.xid ∙ p.goes.xid;
    compound = q.goes.compound ∙ p.goes.compound;
    sent = p.goes.sent ∙ ap (λ (l : List ℕ). sent_in talks ++ l) q.goes.sent
        ∙ sym (append_assoc (sent_in talks) (sent_in more) z.unsent)
        ∙ ap (λ (l : List ℕ). l ++ z.unsent) (sym (sent_in-append talks more));
    heard = q.goes.heard ∙ ap (λ (l : List ℕ). l ++ heard_in more) p.goes.heard
        ∙ append_assoc x.reply (heard_in talks) (heard_in more)
        ∙ ap (λ (l : List ℕ). x.reply ++ l) (sym (heard_in-append talks more));
  };
}

-- why no reply is waited for
why_given_up : (talks more : List Talk) (bytes : List ℕ) (sent heard : Flow) (fault : Fault) → SaysOut talks sent
    → SaysIn more bytes heard → IsGivenUp sent heard fault
    → HasBroken fault (talks ++ more) ⊎ (IsTooLong bytes × (fault ≡ faults.TooLong))
why_given_up talks more bytes sent heard fault out in_ up =
    elim up [
      | inl broken ↦ inl (broken_first fault talks more (subst (SaysOut talks) broken out))
      | inr (inl broken) ↦ inl (broken_later fault talks more (subst (SaysIn more bytes) broken in_))
      | inr (inr over) ↦ inr (subst (SaysIn more bytes) over.0 in_, over.1)
    ]

-- what a record says is how the call ended
by_answer : (compound : Bool) (xid : ℕ) (bytes : List ℕ) (talks : List Talk) (answer : Result (Unit {0}) Fault)
    (message : List ℕ) → HasReply bytes message → IsAnswer compound xid message answer
    → IsOutcome compound xid bytes talks (Ended answer)
by_answer compound xid bytes talks (Ok done) message has is = (message, has, is)
by_answer compound xid bytes talks (Err fault) message has is = inl (message, has, is)

-- how far an exchange has come, by what its bytes say
pub outcome_of : (compound : Bool) (xid : ℕ) (bytes : List ℕ) (talks more : List Talk) (verdict : Verdict)
    (sent heard : Flow) (progress : Progress) → IsVerdict compound xid bytes verdict → SaysOut talks sent
    → SaysIn more bytes heard → ComesTo verdict sent heard progress
    → IsOutcome compound xid bytes (talks ++ more) progress
outcome_of compound xid bytes talks more (Reply answer) sent heard progress v out in_ e =
    subst (IsOutcome compound xid bytes (talks ++ more)) (sym e)
    (by_answer compound xid bytes (talks ++ more) answer v.0 v.1 v.2)
outcome_of compound xid bytes talks more Unfinished sent heard UnderWay v out in_ e = v
outcome_of compound xid bytes talks more Unfinished sent heard Stalled v out in_ e = tt
outcome_of compound xid bytes talks more Unfinished sent heard (Ended (Ok done)) v out in_ e = absurd e
outcome_of compound xid bytes talks more Unfinished sent heard (Ended (Err fault)) v out in_ e =
    inr (v, why_given_up talks more bytes sent heard fault out in_ e)
outcome_of compound xid bytes talks more Memory sent heard progress v out in_ e =
    subst (IsOutcome compound xid bytes (talks ++ more)) (sym e) tt

-- what was read follows what had been read
pub read_more : (received n : ℕ) (old new : List ℕ) → take received new ≡ take received old
    → take (received + n) new ≡ take received old ++ take n (drop received new)
read_more received n old new kept =
    take-add received n new ∙ ap (λ (l : List ℕ). l ++ take n (drop received new)) kept

-- one thing happens
pub goes_by : {D : Type 0} (carries : D → Traffic → D → Type 0) (client : ℕ) (a b : D) (x y : Conversation) (talk : Talk)
    → carries a (Talks client talk) b → y.xid ≡ x.xid → y.is_compound ≡ x.is_compound
    → x.unsent ≡ sent_in (talk ∷ []) ++ y.unsent → y.reply ≡ x.reply ++ heard_in (talk ∷ [])
    → GoesOnBy carries client a x (talk ∷ []) b y
goes_by carries client a b x y talk happens xid compound sent heard = record {
  talk = (b, happens, refl);
  goes = record { xid = xid; compound = compound; sent = sent; heard = heard };
}

-- nothing goes out or comes in
pub stands_still : {D : Type 0} (carries : D → Traffic → D → Type 0) (client : ℕ) (a b : D) (x : Conversation) (talk : Talk)
    → carries a (Talks client talk) b → sent_in (talk ∷ []) ≡ [] → heard_in (talk ∷ []) ≡ []
    → GoesOnBy carries client a x (talk ∷ []) b x
stands_still carries client a b x talk happens sent heard =
    goes_by carries client a b x x talk happens refl refl
    (ap (λ (l : List ℕ). l ++ x.unsent) (sym sent))
    (sym (append-nil x.reply) ∙ ap (λ (l : List ℕ). x.reply ++ l) (sym heard))

-- some of what is left goes out
pub sends_some : {D : Type 0} (carries : D → Traffic → D → Type 0) (client : ℕ) (a b : D) (x : Conversation) (n : ℕ)
    → carries a (Talks client (Sends (take n x.unsent))) b
    → GoesOnBy carries client a x (Sends (take n x.unsent) ∷ []) b (record x { unsent = drop n x.unsent })
sends_some carries client a b x n happens =
    goes_by carries client a b x (record x { unsent = drop n x.unsent }) (Sends (take n x.unsent)) happens refl refl
    (sym (ap (λ (l : List ℕ). l ++ drop n x.unsent) (append-nil (take n x.unsent)) ∙ take-append-drop n x.unsent))
    (sym (append-nil x.reply))

-- these bytes come in
pub hears_some : {D : Type 0} (carries : D → Traffic → D → Type 0) (client : ℕ) (a b : D) (x y : Conversation)
    (bytes : List ℕ) → carries a (Talks client (Hears bytes)) b → y.xid ≡ x.xid → y.is_compound ≡ x.is_compound
    → y.unsent ≡ x.unsent → y.reply ≡ x.reply ++ bytes → GoesOnBy carries client a x (Hears bytes ∷ []) b y
hears_some carries client a b x y bytes happens xid compound unsent reply =
    goes_by carries client a b x y (Hears bytes) happens xid compound (sym unsent)
    (reply ∙ ap (λ (l : List ℕ). x.reply ++ l) (sym (append-nil bytes)))

-- what a flow says holds also if more happened before
pub says_out_later : (talks more : List Talk) (flow : Flow) → SaysOut more flow → SaysOut (talks ++ more) flow
says_out_later talks more (flows.Broken fault) h = broken_later fault talks more h
says_out_later talks more flows.Open h = tt
says_out_later talks more flows.Blocked h = tt
says_out_later talks more flows.Over h = tt

pub says_in_later : (talks more : List Talk) (reply : List ℕ) (flow : Flow) → SaysIn more reply flow
    → SaysIn (talks ++ more) reply flow
says_in_later talks more reply (flows.Broken fault) h = broken_later fault talks more h
says_in_later talks more reply flows.Open h = tt
says_in_later talks more reply flows.Blocked h = tt
says_in_later talks more reply flows.Over h = h

-- how a call that can't be begun was dialed
pub not_begun : {D : Type 0} (carries : D → Traffic → D → Type 0) (client : ℕ) (errand : Errand) (xid : ℕ)
    (error : ConnectError) (old new : D) → IsDialed carries client errand (Err error) old new
    → IsBegun carries client errand xid (Err error) old new
not_begun carries client errand xid (errors.Fault fault) old new dialed = inr dialed
not_begun carries client errand xid errors.Refused old new dialed = inr dialed
