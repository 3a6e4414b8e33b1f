-- How many bytes a linked list takes.
use Rattle.std.proofs.Common.{◌≡◌, ℕ, ◌+◌, ◌<◌, ◌≤◌, true, false, List, length, get_or, take, ap, arith}
use Rattle.std.specs.List.{flat_map}
use Rattle.std.proofs.lemmas.List.{length-append}
use Rattle.std.proofs.lemmas.List.Folds.{length-flat_map-take}
use Rattle.byteorder.specs.Numbers.{length-bytes_high_first}
use Rattle.xdr.specs.Writing.{written_number, written_flag, written_link, written_chain}

pub link_length : {A : Type 0} (f : A → List ℕ) (value : A) → length (written_link f value) ≡ 4 + length (f value)
unfolding written_number
link_length f value = omega (arith, length-append (written_flag true) (f value), length-bytes_high_first 4 1)

pub chain_length : {A : Type 0} (f : A → List ℕ) (values : List A) → length (written_chain f values) ≡ 4 + length (flat_map (written_link f) values)
unfolding written_number
chain_length f values = omega (arith, length-append (flat_map (written_link f) values) (written_flag false), length-bytes_high_first 4 0)

-- what comes before a value, and the value, are within the list
pub link_within : {A : Type 0} (f : A → List ℕ) (values : List A) (i : ℕ) (value : A) → i < length values → value ≡ get_or values i value
    → 4 + length (flat_map (written_link f) (take i values)) + length (written_link f value) ≤ length (written_chain f values)
link_within {A = A} f values i value lt is =
    let same : length (written_link f value) ≡ length (written_link f (get_or values i value)) = ap (λ (x : A). length (written_link f x)) is in
    omega (arith, same, length-flat_map-take (written_link f) values i value lt, chain_length f values)
