-- What is read of an address is the socket that it names.
use Rattle.std.proofs.Common.{◌≡◌, ℕ, zero, suc, ◌+◌, ◌*◌, ◌<◌, ◌≤◌, true, false, ltb, leb, eqb, List, [], ◌∷◌, ◌++◌, length, take, drop, get_or, Option, Some, None, refl, sym, ap, subst, ◌∙◌, inl, inr, append_assoc, arith, length-append}
use Rattle.std.specs.Prelude.{codes, option_map, ◌↔◌}
use Rattle.std.specs.List.{position, position_or_len}
use Rattle.std.specs.Char.{digit_value}
use Rattle.std.specs.Str.Parse.{AllDigits, digits_value_after}
use Rattle.std.specs.declared.net.socket_addr.SocketAddrV4.{SocketAddrV4}
use Rattle.std.proofs.Math.ListN.{get_or-append}
use Rattle.std.proofs.Math.Seq.{split_at, get_or-append_seam, take-append_seam, drop-append-add}
use Rattle.std.proofs.lemmas.Bool.{eqb-true, eqb-false, ne_eqb, ltb-true, lt-ltb, le-ltb, ltb-false, leb-true, le-leb}
use Rattle.std.specs.Str.{bytes_eq}
use Rattle.std.proofs.lemmas.Slice.Eq.{bytes_eq-Decides}
use Rattle.std.proofs.lemmas.List.Quantifiers.{position-Some}
use Rattle.std.proofs.lemmas.List.Sums.{position_or_len_is}
use Rattle.xdr.specs.Reading.{Begins}
use Rattle.xdr.specs.laws.Reads.{true_or_false}
use Rattle.nfs_forms.specs.declared.callback.Address.{Address}
use Rattle.nfs_rpc.specs.UniversalAddress.{Decimal, IsUniversal, Names, Part}
use Rattle.nfs_rpc.specs.ReadingAddresses.{◌>>=◌, digits_after, number_at, part_at, parts_of, small, socket_at, socket_of, universal_at}

some_is : {A : Type 0} (x y : A) → ◌≡◌ {A = Option A} (Some x) (Some y) → x ≡ y
some_is x y e = cc

pos_of_ne : (n : ℕ) → (n ≡ 0 → ⊥) → 0 < n
pos_of_ne zero other = absurd (other refl)
pos_of_ne (suc n) other = omega arith

-- if two steps in a row succeed, the first one gave a value with which the second one succeeded
bind_some : {A B : Type 0} (o : Option A) (f : A → Option B) (y : B) → (o >>= f) ≡ Some y → (x : A) × (o ≡ Some x) × (f x ≡ Some y)
bind_some (Some x) f y e = (x, refl, e)
bind_some None f y e = absurd cc

-- Digits: their number is found exactly if all are digits.
digits_sound : (n m : ℕ) (text : List ℕ) → digits_after n text ≡ Some m → AllDigits 10 text × (digits_value_after 10 n text ≡ m)
digits_sound n m [] e = (tt, some_is n m e)
digits_sound n m (c ∷ cs) e =
    elim (true_or_false (ltb (digit_value c) 10)) [
      | inl digit ↦
          let more = digits_sound (n * 10 + digit_value c) m cs (rw digit at e) in
          ((ltb-true _ _ digit, more.0), more.1)
      | inr other ↦ let clash : ◌≡◌ {A = Option ℕ} None (Some m) = rw other at e in absurd cc
    ]

digits_complete : (n : ℕ) (text : List ℕ) → AllDigits 10 text → digits_after n text ≡ Some (digits_value_after 10 n text)
digits_complete n [] all = refl
digits_complete n (c ∷ cs) all = rw (lt-ltb (digit_value c) 10 all.0) (digits_complete (n * 10 + digit_value c) cs all.1)

small_sound : (m n : ℕ) → small m ≡ Some n → (m ≡ n) × (n ≤ 255)
small_sound m n e =
    elim (true_or_false (leb m 255)) [
      | inl fits ↦
          let same : m ≡ n = some_is m n (rw fits at e) in
          (same, omega (arith, same, leb-true _ _ fits))
      | inr large ↦ let clash : ◌≡◌ {A = Option ℕ} None (Some n) = rw large at e in absurd cc
    ]

-- A number is found exactly if the text is one.
number_sound : (text : List ℕ) (n : ℕ) → number_at text ≡ Some n → Decimal n text
number_sound text n e =
    elim (true_or_false (eqb (length text) 0)) [
      | inl none ↦ let clash : ◌≡◌ {A = Option ℕ} None (Some n) = rw none at e in absurd cc
      | inr some ↦ elim (true_or_false (ltb 3 (length text))) [
        | inl long ↦ let clash : ◌≡◌ {A = Option ℕ} None (Some n) = rw (some, long) at e in absurd cc
        | inr short ↦
            let found = bind_some (digits_after 0 text) small n (rw (some, short) at e) in
            let digits = digits_sound 0 found.0 text found.1 in
            let fits = small_sound found.0 n found.2 in
            let positive : 0 < length text = pos_of_ne _ (eqb-false _ _ some) in
            ((positive, digits.0), ltb-false _ _ short, digits.1 ∙ fits.0, fits.1)
      ]
    ]

number_complete : (text : List ℕ) (n : ℕ) → Decimal n text → number_at text ≡ Some n
number_complete text n is =
    let nonempty : eqb (length text) 0 ≡ false = ne_eqb _ _ (λ none. omega (arith, is.0.0, none)) in
    let short : ltb 3 (length text) ≡ false = le-ltb _ _ is.1 in
    let fits : leb n 255 ≡ true = le-leb _ _ is.3 in
    rw (nonempty, short, digits_complete 0 text is.0.1, is.2, fits) refl

-- A dot is no digit.
not_dot : (c : ℕ) → digit_value c < 10 → eqb c 46 ≡ false
not_dot c digit = ne_eqb c 46 (λ dot. let clash : digit_value 46 < 10 = subst (λ (x : ℕ). digit_value x < 10) dot digit in absurd (omega (arith, clash)))

no_dot : (text : List ℕ) (k : ℕ) → AllDigits 10 text → k < length text → eqb (get_or text k 0) 46 ≡ false
no_dot [] k all below = absurd (omega (arith, below))
no_dot (c ∷ cs) zero all below = not_dot c all.0
no_dot (c ∷ cs) (suc k) all below = no_dot cs k all.1 (omega (arith, below))

-- A part is found exactly if the text begins with one.
part_there : (digits rest : List ℕ) (n : ℕ) → Decimal n digits → part_at (digits ++ (46 ∷ rest)) ≡ Some (n, rest)
part_there digits rest n is =
    let text = digits ++ (46 ∷ rest) in
    let long : length text ≡ length digits + (1 + length rest) = omega (arith, length-append digits (46 ∷ rest)) in
    let place : position_or_len (λ byte. eqb byte 46) text ≡ length digits =
    position_or_len_is (λ byte. eqb byte 46) text (length digits) 0 (omega (arith, long))
    (λ k below. rw (get_or-append digits (46 ∷ rest) 0 k below) (no_dot digits k is.0.1 below))
    (λ below. rw (get_or-append_seam digits 46 rest 0) refl) in
    let within : ltb (length digits) (length text) ≡ true = lt-ltb _ _ (omega (arith, long)) in
    let front : take (length digits) text ≡ digits = take-append_seam digits (46 ∷ rest) in
    let back : drop (length digits + 1) text ≡ rest = drop-append-add digits (46 ∷ rest) 1 in
    rw (place, within, front, number_complete digits n is, back) refl

part_complete : (text rest : List ℕ) (n : ℕ) → Begins (Part n) text rest → part_at text ≡ Some (n, rest)
part_complete text rest n h =
    let part = h.2 in
    let same : text ≡ part.0 ++ (46 ∷ rest) = h.1 ∙ ap (λ (x : List ℕ). x ++ rest) (part.2 ∙ ap (λ (x : List ℕ). part.0 ++ x) part.4) ∙ append_assoc part.0 (46 ∷ []) rest in
    ap part_at same ∙ part_there part.0 rest n part.3

part_sound : (text rest : List ℕ) (n : ℕ) → part_at text ≡ Some (n, rest) → Begins (Part n) text rest
part_sound text rest n e =
    let dot = bind_some (position (λ byte. eqb byte 46) text) (λ dot. number_at (take dot text) >>= λ n. Some (n, drop (dot + 1) text)) (n, rest) e in
    let number = bind_some (number_at (take dot.0 text)) (λ n. Some (n, drop (dot.0 + 1) text)) (n, rest) dot.2 in
    let found = position-Some (λ byte. eqb byte 46) text dot.0 0 dot.1 in
    let same = some_is (number.0, drop (dot.0 + 1) text) (n, rest) number.2 in
    let split : text ≡ take dot.0 text ++ (get_or text dot.0 0 ∷ drop (suc dot.0) text) = split_at text dot.0 0 found.0 in
    let is_dot : get_or text dot.0 0 ≡ 46 = eqb-true _ _ found.1 in
    let next : suc dot.0 ≡ dot.0 + 1 = omega arith in
    let back : drop (suc dot.0) text ≡ rest = ap (λ k. drop k text) next ∙ ap (λ (x : ℕ × List ℕ). x.1) same in
    let decimal : Decimal n (take dot.0 text) = subst (λ (m : ℕ). Decimal m (take dot.0 text)) (ap (λ (x : ℕ × List ℕ). x.0) same) (number_sound (take dot.0 text) number.0 number.1) in
    let whole : text ≡ (take dot.0 text ++ (46 ∷ [])) ++ rest =
    split ∙ ap (λ (x : List ℕ). take dot.0 text ++ x) (ap (λ c. c ∷ drop (suc dot.0) text) is_dot ∙ ap (λ (x : List ℕ). 46 ∷ x) back) ∙ sym (append_assoc (take dot.0 text) (46 ∷ []) rest) in
    (take dot.0 text ++ (46 ∷ []), whole, (take dot.0 text, 46 ∷ [], refl, decimal, refl))

-- The six numbers, and the octets and the port that they make.
universal_complete : (text octets : List ℕ) (port : ℕ) → IsUniversal text octets port → 0 < port → universal_at text ≡ Some (octets, port)
universal_complete text octets port h positive =
    let a = h.6 in
    let b = a.4 in
    let c = b.4 in
    let d = c.4 in
    let e = d.4 in
    let not_zero : eqb port 0 ≡ false = ne_eqb _ _ (λ none. omega (arith, positive, none)) in
    rw (
      part_complete text a.1 h.0 (a.0, a.2, a.3),
      part_complete a.1 b.1 h.1 (b.0, b.2, b.3),
      part_complete b.1 c.1 h.2 (c.0, c.2, c.3),
      part_complete c.1 d.1 h.3 (d.0, d.2, d.3),
      part_complete d.1 e.1 h.4 (e.0, e.2, e.3),
      number_complete e.1 h.5 e.4,
      ← h.7,
      ← h.8,
      not_zero,
    ) refl

socket_sound : (octets : List ℕ) (port : ℕ) (y : List ℕ × ℕ) → socket_of octets port ≡ Some y → (y.0 ≡ octets) × (y.1 ≡ port) × (0 < y.1)
socket_sound octets port y e =
    elim (true_or_false (eqb port 0)) [
      | inl none ↦ let clash : ◌≡◌ {A = Option (List ℕ × ℕ)} None (Some y) = rw none at e in absurd cc
      | inr other ↦
          let same : (octets, port) ≡ y = some_is (octets, port) y (rw other at e) in
          let same_port : y.1 ≡ port = ap (λ (x : List ℕ × ℕ). x.1) (sym same) in
          let positive : 0 < port = pos_of_ne _ (eqb-false _ _ other) in
          (ap (λ (x : List ℕ × ℕ). x.0) (sym same), same_port, omega (arith, positive, same_port))
    ]

universal_sound : (text : List ℕ) (y : List ℕ × ℕ) → universal_at text ≡ Some y → IsUniversal text y.0 y.1 × (0 < y.1)
universal_sound text y e =
    let a = bind_some (part_at text) _ y e in
    let b = bind_some (part_at a.0.1) _ y a.2 in
    let c = bind_some (part_at b.0.1) _ y b.2 in
    let d = bind_some (part_at c.0.1) _ y c.2 in
    let f = bind_some (part_at d.0.1) _ y d.2 in
    let g = bind_some (number_at f.0.1) _ y f.2 in
    let h1 = part_sound text a.0.1 a.0.0 a.1 in
    let h2 = part_sound a.0.1 b.0.1 b.0.0 b.1 in
    let h3 = part_sound b.0.1 c.0.1 c.0.0 c.1 in
    let h4 = part_sound c.0.1 d.0.1 d.0.0 d.1 in
    let p1 = part_sound d.0.1 f.0.1 f.0.0 f.1 in
    let p2 = number_sound f.0.1 g.0 g.1 in
    let socket = socket_sound (a.0.0 ∷ b.0.0 ∷ c.0.0 ∷ d.0.0 ∷ []) (f.0.0 * 256 + g.0) y g.2 in (
      (
        a.0.0,
        b.0.0,
        c.0.0,
        d.0.0,
        f.0.0,
        g.0,
        (h1.0, a.0.1, h1.1, h1.2, (h2.0, b.0.1, h2.1, h2.2, (h3.0, c.0.1, h3.1, h3.2, (h4.0, d.0.1, h4.1, h4.2, (p1.0, f.0.1, p1.1, p1.2, p2))))),
        socket.0,
        socket.1,
      ),
      socket.2,
    )

-- An address names exactly the socket that is read.
socket_complete : (address : Address) (socket : SocketAddrV4) → Names address socket → socket_at address ≡ Some (parts_of socket)
socket_complete address socket h =
    rw ((bytes_eq-Decides address.netid (codes "tcp")).1 h.0) (universal_complete address.addr _ _ h.1 h.2)

names_from : (address : Address) (socket : SocketAddrV4) → socket_at address ≡ Some (parts_of socket) → Names address socket
names_from address socket e =
    elim (true_or_false (bytes_eq address.netid (codes "tcp"))) [
      | inl tcp ↦
          let found = universal_sound address.addr (parts_of socket) (rw tcp at e) in
          ((bytes_eq-Decides address.netid (codes "tcp")).0 tcp, found.0, found.1)
      | inr other ↦
          let clash : ◌≡◌ {A = Option (List ℕ × ℕ)} None (Some (parts_of socket)) = rw other at e in absurd cc
    ]

-- a socket is known by its octets and its port
same_parts : (a b : SocketAddrV4) → parts_of a ≡ parts_of b → a ≡ b
same_parts a b e =
    let make : List ℕ × ℕ → SocketAddrV4 = λ x. record { ip = record { octets = x.0 }; port = x.1 } in ap make e

none_found : (address : Address) (socket : SocketAddrV4) → None ≡ socket_at address → Names address socket → ⊥
none_found address socket e is =
    let clash : ◌≡◌ {A = Option (List ℕ × ℕ)} None (Some (parts_of socket)) = e ∙ socket_complete address socket is in cc

pub socket_stands : (address : Address) (r : Option SocketAddrV4) → option_map parts_of r ≡ socket_at address → (socket : SocketAddrV4) → (r ≡ Some socket) ↔ Names address socket
socket_stands address (Some found) e socket = (
  (λ same.
      let is : found ≡ socket = some_is found socket same in
      names_from address socket (sym e ∙ ap (λ (s : SocketAddrV4). Some (parts_of s)) is)),
  (λ is.
      let parts : parts_of found ≡ parts_of socket = some_is _ _ (e ∙ socket_complete address socket is) in
      ap (λ (s : SocketAddrV4). Some s) (same_parts found socket parts)),
)
socket_stands address None e socket = (
  (λ same. let clash : ◌≡◌ {A = Option SocketAddrV4} None (Some socket) = same in absurd cc),
  (λ is. absurd (none_found address socket e is)),
)
