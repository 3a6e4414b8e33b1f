-- Answering records one after the other, while their replies wait to be written.
use Rattle.std.proofs.Common.{◌≡◌, ℕ, List, [], ◌∷◌, ◌++◌, Result, Ok, Err, refl, sym, ap, subst, ◌∙◌}
use Rattle.std.specs.Prelude.{◌≢◌, OnOk, OnErr, IsErrOf}
use Rattle.std.proofs.lemmas.List.{append-nil}
use Rattle.std.proofs.lemmas.List.Concat.{flat_map-cons}
use Rattle.std.proofs.lemmas.Grind.{flat_map-append}
use Rattle.nfs_tree.specs.Exports.{Exported}
use Rattle.nfs_server.specs.declared.serve_error.ServeError.{ServeError}
use Rattle.nfs_server.specs.declared.serve_error.ServeError.TheVariants as errors
use Rattle.nfs_server.specs.Connection.{Scene, scene}
use Rattle.nfs_server.specs.Device.{Device, IsCut, IsWritten}
use Rattle.nfs_server.specs.Exchange.{Exchange, Rules, AreExchanged, AreLeft, IsExchanged, messages_of, written_for, written_for_all}
use Rattle.nfs_server.specs.Serving.{IsServed}
use Rattle.nfs_server.specs.laws.Exchanges.{exchanged_then}
use Rattle.nfs_server.specs.laws.Writing.{cut_after, written_nothing, written_then}

pub exchanged_more : {S C : Type 0} (rules : Rules S C) (es : List Exchange) (e : Exchange) (s mid new : S) (c between after : C)
    → AreExchanged rules s c es mid between → IsExchanged rules mid between e new after → AreExchanged rules s c (es ++ e ∷ []) new after
exchanged_more rules es e s mid new c between after so_far one =
    exchanged_then rules es (e ∷ []) s mid new c between after so_far (new, after, one, (refl, refl))

pub messages-append : (es fs : List Exchange) → messages_of (es ++ fs) ≡ messages_of es ++ messages_of fs
messages-append [] fs = refl
messages-append (e ∷ es) fs = ap (λ (x : List (List ℕ)). e.message ∷ x) (messages-append es fs)

pub messages-more : (es : List Exchange) (e : Exchange) (left : List (List ℕ)) → messages_of es ++ (e.message ∷ left) ≡ messages_of (es ++ e ∷ []) ++ left
messages-more [] e left = refl
messages-more (f ∷ es) e left = ap (λ (x : List (List ℕ)). f.message ∷ x) (messages-more es e left)

pub written-append : (export : Exported) (es fs : List Exchange) → written_for_all export (es ++ fs) ≡ written_for_all export es ++ written_for_all export fs
written-append export es fs = flat_map-append (written_for export) es fs

pub written-more : (export : Exported) (es : List Exchange) (e : Exchange) → written_for_all export (es ++ e ∷ []) ≡ written_for_all export es ++ written_for export e
written-more export es e = written-append export es (e ∷ []) ∙ ap (λ (x : List ℕ). written_for_all export es ++ x) (flat_map-cons (written_for export) e [] ∙ append-nil (written_for export e))

-- All messages except those that are left were answered; some bytes of the replies were written, and the others wait.
pub record HasServed {D S C : Type 0} (device : Device D) (rules : Rules S C) (before : Scene D S C) (messages left : List (List ℕ)) (waiting : List ℕ) (after : Scene D S C) : Type 0 where
  pub exchanges : List Exchange
  pub out : List ℕ
  pub served : messages ≡ messages_of exchanges ++ left
  pub exchanged : AreExchanged rules before.service before.clock exchanges after.service after.clock
  pub all : written_for_all rules.export exchanges ≡ out ++ waiting
  pub written : IsWritten device before.device out after.device

pub serves_none : {D S C : Type 0} (device : Device D) (rules : Rules S C) (before : Scene D S C) (messages : List (List ℕ)) (waiting : List ℕ) → waiting ≡ [] → HasServed device rules before messages messages waiting before
serves_none device rules before messages waiting none = record {
  exchanges = [];
  out = [];
  served = refl;
  exchanged = (refl, refl);
  all = sym none;
  written = written_nothing device before.device;
}

-- the replies that waited were written
pub serves_sent : {D S C : Type 0} (device : Device D) (rules : Rules S C) (before mid : Scene D S C) (messages left : List (List ℕ)) (waiting none : List ℕ) (d : D)
    → HasServed device rules before messages left waiting mid → IsWritten device mid.device waiting d → none ≡ []
    → HasServed device rules before messages left none (scene d mid.service mid.clock)
serves_sent device rules before mid messages left waiting none d s sent is_none = record {
  exchanges = s.exchanges;
  out = s.out ++ waiting;
  served = s.served;
  exchanged = s.exchanged;
  all = s.all ∙ sym (append-nil (s.out ++ waiting)) ∙ ap (λ (w : List ℕ). (s.out ++ waiting) ++ w) (sym is_none);
  written = written_then device before.device mid.device d s.out waiting s.written sent;
}

write_is_not_memory : {T : Type 0} → IsErrOf {T = T} (Err errors.Write) errors.Memory → ⊥
write_is_not_memory same = cc

ok_is_no_error : {T : Type 0} {x : T} {e : ServeError} → IsErrOf {T = T} (Ok x) e → ⊥
ok_is_no_error same = cc

-- nothing was done for the messages that are left
pub left_so : {S : Type 0} (alike : S → S → Type 0) (same : (s : S) → alike s s) (s : S) (left : List (List ℕ)) → AreLeft alike s left s
left_so alike same s [] = refl
left_so alike same s (message ∷ left) = same s

-- no message is left
pub left_none : {S : Type 0} (alike : S → S → Type 0) (s : S) (left : List (List ℕ)) → left ≡ [] → AreLeft alike s left s
left_none alike s left none = rw none refl

-- serving ends because a write failed within the replies that waited
pub ends_cut : {D S C T : Type 0} (device : Device D) (rules : Rules S C) (before mid : Scene D S C) (messages left : List (List ℕ)) (waiting : List ℕ) (d : D) (service : S)
    → HasServed device rules before messages left waiting mid → AreLeft rules.alike mid.service left service → IsCut device mid.device waiting d
    → IsServed {T = T} device rules before messages (Err errors.Write) (scene d service mid.clock)
ends_cut {D = D} device rules before mid messages left waiting d service s stays cut = record {
  exchanges = s.exchanges;
  unanswered = left;
  service = mid.service;
  served = s.served;
  exchanged = s.exchanged;
  left = stays;
  none_left = tt;
  some_left = λ same none. write_is_not_memory same;
  written = subst (λ (w : List ℕ). IsCut device before.device w d) (sym s.all) (cut_after device before.device mid.device d s.out waiting s.written cut);
}

-- serving ends because memory ran out for a reply, after the replies that waited were written
pub ends_refused : {D S C T : Type 0} (device : Device D) (rules : Rules S C) (before mid : Scene D S C) (messages left : List (List ℕ)) (waiting : List ℕ) (d : D) (service : S)
    → HasServed device rules before messages left waiting mid → AreLeft rules.alike mid.service left service → left ≢ [] → IsWritten device mid.device waiting d
    → IsServed {T = T} device rules before messages (Err errors.Memory) (scene d service mid.clock)
ends_refused device rules before mid messages left waiting d service s stays some sent = record {
  exchanges = s.exchanges;
  unanswered = left;
  service = mid.service;
  served = s.served;
  exchanged = s.exchanged;
  left = stays;
  none_left = tt;
  some_left = λ same. some;
  written = subst (λ (w : List ℕ). IsWritten device before.device w d) (sym s.all) (written_then device before.device mid.device d s.out waiting s.written sent);
}

-- serving ends because no record is left: the replies that waited were written, or a write failed within them
pub ends_all : {D S C T : Type 0} (device : Device D) (rules : Rules S C) (before mid : Scene D S C) (messages left : List (List ℕ)) (waiting : List ℕ) (d : D) (result : Result T ServeError)
    → HasServed device rules before messages left waiting mid → left ≡ []
    → OnOk result (IsWritten device mid.device waiting d) → OnErr result (IsCut device mid.device waiting d) → OnErr result (result ≡ Err errors.Write)
    → IsServed {T = T} device rules before messages result (scene d mid.service mid.clock)
ends_all {T = T} device rules before mid messages left waiting d (Ok x) s none sent cut write = record {
  exchanges = s.exchanges;
  unanswered = left;
  service = mid.service;
  served = s.served;
  exchanged = s.exchanged;
  left = left_none rules.alike mid.service left none;
  none_left = none;
  some_left = λ same. absurd (ok_is_no_error same);
  written = subst (λ (w : List ℕ). IsWritten device before.device w d) (sym s.all) (written_then device before.device mid.device d s.out waiting s.written sent);
}
ends_all {T = T} device rules before mid messages left waiting d (Err e) s none sent cut write =
    rw write (ends_cut {T = T} device rules before mid messages left waiting d mid.service s (left_none rules.alike mid.service left none) cut)

abbrev pub errs : ServeError → Result (Unit {0}) ServeError
errs e = Err e

pub error_is : (e f : ServeError) → errs e ≡ errs f → e ≡ f
error_is e f same = cc

-- serving ends, and its error is returned
pub ends_so : {D S C T U : Type 0} (device : Device D) (rules : Rules S C) (before after : Scene D S C) (messages : List (List ℕ)) (result : Result T ServeError) (error : ServeError)
    → result ≡ Err error → error ≡ errors.Write → IsServed {T = U} device rules before messages (Err errors.Write) after → IsServed {T = T} device rules before messages result after
ends_so {T = T} device rules before after messages result error failed is_write s = rw (failed, is_write) (record {
  exchanges = s.exchanges;
  unanswered = s.unanswered;
  service = s.service;
  served = s.served;
  exchanged = s.exchanged;
  left = s.left;
  none_left = tt;
  some_left = λ same none. write_is_not_memory same;
  written = s.written;
})
