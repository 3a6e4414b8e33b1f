-- A text is split in only one way, and with a piece after it the split continues from the rest.
use Rattle.std.proofs.Common.{◌≡◌, ℕ, List, [], ◌∷◌, ◌++◌, refl, sym, ◌∙◌, ap, append_assoc}
use Rattle.nfs_rpc.specs.Records.{AreRecords, IsRest, OneSplit, SplitGoesOn}
use Rattle.nfs_rpc.proofs.Fragments.{IsRecord-same}

AreRecords-same : (records others : List (List ℕ)) (front ahead rest remainder : List ℕ)
    → AreRecords records front → AreRecords others ahead → IsRest rest → IsRest remainder → front ++ rest ≡ ahead ++ remainder
    → (records ≡ others) × (rest ≡ remainder)
AreRecords-same [] [] front ahead rest remainder a b p q e =
    (refl, ap (λ l. l ++ rest) (sym a) ∙ e ∙ ap (λ l. l ++ remainder) b)
AreRecords-same [] (m ∷ ms) front ahead rest remainder a b p q e =
    absurd (p m b.1.0 (b.1.1 ++ remainder) (ap (λ l. l ++ rest) (sym a) ∙ e ∙ ap (λ l. l ++ remainder) b.1.2 ∙ append_assoc b.1.0 b.1.1 remainder) b.1.3 b.0)
AreRecords-same (m ∷ ms) [] front ahead rest remainder a b p q e =
    absurd (q m a.1.0 (a.1.1 ++ rest) (ap (λ l. l ++ remainder) (sym b) ∙ sym e ∙ ap (λ l. l ++ rest) a.1.2 ∙ append_assoc a.1.0 a.1.1 rest) a.1.3 a.0)
AreRecords-same (m ∷ ms) (n ∷ ns) front ahead rest remainder a b p q e =
    let both : a.1.0 ++ (a.1.1 ++ rest) ≡ b.1.0 ++ (b.1.1 ++ remainder) =
    sym (append_assoc a.1.0 a.1.1 rest) ∙ ap (λ l. l ++ rest) (sym a.1.2) ∙ e ∙ ap (λ l. l ++ remainder) b.1.2 ∙ append_assoc b.1.0 b.1.1 remainder in
    let first = IsRecord-same m n a.1.0 b.1.0 (a.1.1 ++ rest) (b.1.1 ++ remainder) a.1.3 b.1.3 both in
    let more = AreRecords-same ms ns a.1.1 b.1.1 rest remainder a.1.4 b.1.4 p q first.1 in
    let same : m ≡ n = first.0 in
    let others : ms ≡ ns = more.0 in
    (cc, more.1)

pub one_split : OneSplit
one_split text records others rest remainder a b =
    AreRecords-same records others a.front b.front rest remainder a.records b.records a.none_left b.none_left (sym a.whole ∙ b.whole)

AreRecords-append : (records found : List (List ℕ)) (front back : List ℕ)
    → AreRecords records front → AreRecords found back → AreRecords (records ++ found) (front ++ back)
AreRecords-append [] found front back a b = rw a b
AreRecords-append (m ∷ ms) found front back a b =
    (a.0, (a.1.0, a.1.1 ++ back, ap (λ l. l ++ back) a.1.2 ∙ append_assoc a.1.0 a.1.1 back, a.1.3, AreRecords-append ms found a.1.1 back a.1.4 b))

pub split_goes_on : SplitGoesOn
split_goes_on text piece records found rest remainder a b = record {
  front = a.front ++ b.front;
  whole = ap (λ l. l ++ piece) a.whole ∙ append_assoc a.front rest piece ∙ ap (λ l. a.front ++ l) b.whole ∙ sym (append_assoc a.front b.front remainder);
  records = AreRecords-append records found a.front b.front a.records b.records;
  none_left = b.none_left;
}
