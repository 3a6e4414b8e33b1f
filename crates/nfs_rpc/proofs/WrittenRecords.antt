-- A message becomes a record of one fragment once the header is written into the bytes kept for it.
use Rattle.std.proofs.Common.{◌≡◌, ℕ, ◌+◌, ◌-◌, ◌^◌, ◌<◌, ◌≤◌, List, ◌++◌, length, take, drop, refl, ap, ◌∙◌, arith}
use Rattle.std.proofs.lemmas.List.{append_assoc, length-append, length-drop, length-take-le, take_all, take_at, take-append-le, drop_at, drop-drop}
use Rattle.std.proofs.lemmas.Slice.{take-put_mid}
use Rattle.xdr.specs.Writing.{written_number}
use Rattle.nfs_rpc.specs.Reply.{written_record}
use borrow.Rule.Slice.PartMut.{put_mid, post_of}

-- the bytes once a header was written into the part from `start` to the end
pub with_header : (items part head : List ℕ) (start n : ℕ) → start + 4 ≤ length items → length items ≡ n → length head ≡ 4
    → part ≡ head ++ drop 4 (take (length items - start) (drop start items))
    → take n (put_mid start (length items - start) items part ++ drop (length (put_mid start (length items - start) items part)) items) ≡ take start items ++ (head ++ drop (start + 4) items)
with_header items part head start n kept len four was =
    let k = length items - start in
    let whole = put_mid start k items part in
    let rest : take k (drop start items) ≡ drop start items = take_all k (drop start items) (omega (arith, length-drop start items)) in
    let now : part ≡ head ++ drop (start + 4) items = was ∙ ap (λ x. head ++ drop 4 x) rest ∙ ap (λ x. head ++ x) (drop-drop 4 start items) in
    let part_len : n ≡ start + length part = omega (arith, ap length now, length-append head (drop (start + 4) items), length-drop (start + 4) items) in
    let front : take n whole ≡ take start items ++ part = take-put_mid start k items part n part_len (omega arith) in
    let fields = length-append part (post_of start k items) in
    let long : n ≤ length whole = omega (arith, part_len, fields, length-append (take start items) (part ++ post_of start k items), length-take-le start items (omega arith)) in
    take-append-le n whole (drop (length whole) items) long ∙ front ∙ ap (λ x. take start items ++ x) now

-- the message fits a fragment if it is short
pub fits_fragment : (before header mid message whole : List ℕ) (start : ℕ) → length before ≡ start → length header ≡ 4 → mid ≡ before ++ header → whole ≡ mid ++ message
    → length message ≤ 240 → length whole < start + 4 + 2 ^ 31
fits_fragment before header mid message whole start len four first second short =
    omega (arith, ap length first, length-append before header, ap length second, length-append mid message)

-- what follows the bytes that were there becomes a record of the message
pub record_after : (before header mid message whole after : List ℕ) (start : ℕ) → length before ≡ start → length header ≡ 4 → mid ≡ before ++ header → whole ≡ mid ++ message
    → after ≡ take start whole ++ written_record (drop (start + 4) whole) → after ≡ before ++ written_record message
record_after before header mid message whole after start len four first second done =
    let all : whole ≡ before ++ header ++ message = second ∙ ap (λ x. x ++ message) first in
    let front : take start whole ≡ before = ap (take start) (all ∙ append_assoc before header message) ∙ take_at before (header ++ message) start len in
    let back : drop (start + 4) whole ≡ message = ap (drop (start + 4)) all ∙ drop_at (before ++ header) message (start + 4) (omega (arith, length-append before header)) in
    done ∙ ap (λ x. x ++ written_record (drop (start + 4) whole)) front ∙ ap (λ x. before ++ written_record x) back

pub header_space : length (written_number 4 0) ≡ 4
unfolding written_number
header_space = refl
