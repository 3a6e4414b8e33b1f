-- The reply to a callback: the first record of the bytes that came in.
use Rattle.std.proofs.Common.{◌≡◌, List, ℕ, [], ◌∷◌, ◌++◌, Option, Some, None, IfSome, IfNone, subst, sym, ap, ◌∙◌}
use Rattle.std.specs.Global.{Vec}
use Rattle.nfs_callbacks.specs.Exchanges.{HasReply, HasNoReply}
use Rattle.nfs_rpc.specs.Records.{IsNew, OneSplit, Splits, Stream, TakesPiece}

-- the records of a stream that was new before these bytes
pub split_of_new : (old new : Stream) (bytes : List ℕ) → IsNew old → TakesPiece old new bytes
    → (rest : List ℕ) × Splits bytes new.ready rest
split_of_new old new bytes n t =
    let s = t.split [] n.keeps in
    let is = t.ready ∙ ap (λ (l : List (List ℕ)). l ++ t.found) n.idle in
    (s.0, subst (λ (l : List (List ℕ)). Splits bytes l s.0) (sym is) s.1)

-- the first of these records is the reply
pub reply_of_new : (old new : Stream) (bytes message : List ℕ) (others : List (List ℕ)) → IsNew old
    → TakesPiece old new bytes → new.ready ≡ message ∷ others → HasReply bytes message
reply_of_new old new bytes message others n t is =
    let s = split_of_new old new bytes n t in
    (others, s.0, subst (λ (l : List (List ℕ)). Splits bytes l s.0) is s.1)

apart : {message : List ℕ} {others : List (List ℕ)} → [] ≡ message ∷ others → ⊥
apart e = cc

-- there is no reply where there are no records
pub no_reply_of_new : OneSplit → (old new : Stream) (bytes : List ℕ) → IsNew old
    → TakesPiece old new bytes → new.ready ≡ [] → HasNoReply bytes
no_reply_of_new one old new bytes n t is message r =
    let s = split_of_new old new bytes n t in
    apart ((sym is) ∙ (one bytes new.ready (message ∷ r.0) s.0 r.1 s.1 r.2).0)

first_is : (message other : List ℕ) (others more : List (List ℕ)) → other ∷ more ≡ message ∷ others → other ≡ message
first_is message other others more e = cc

-- there is one reply
pub one_reply : OneSplit → (bytes message other : List ℕ) → HasReply bytes message → HasReply bytes other
    → other ≡ message
one_reply one bytes message other r s =
    first_is message other r.0 s.0 (one bytes (other ∷ s.0) (message ∷ r.0) s.1 r.1 s.2 r.2).0

-- what is taken out first is the reply
pub first_of_new : (old fed new : Stream) (bytes : List ℕ) (found : Option (Vec ℕ)) → IsNew old
    → TakesPiece old fed bytes
    → IfSome found (λ message. fed ≡ record new { ready = message.items ∷ new.ready })
    → IfSome found (λ message. HasReply bytes message.items)
first_of_new old fed new bytes (Some message) n t e =
    reply_of_new old fed bytes message.items new.ready n t (ap (λ (s : Stream). s.ready) e)
first_of_new old fed new bytes None n t e = tt

-- where nothing is taken out there is no reply
pub no_first_of_new : OneSplit → (old fed new : Stream) (bytes : List ℕ) (found : Option (Vec ℕ)) → IsNew old
    → TakesPiece old fed bytes → IfNone found ((fed.ready ≡ []) × (new ≡ fed))
    → IfNone found (HasNoReply bytes)
no_first_of_new one old fed new bytes (Some message) n t e = tt
no_first_of_new one old fed new bytes None n t e = no_reply_of_new one old fed bytes n t e.0
