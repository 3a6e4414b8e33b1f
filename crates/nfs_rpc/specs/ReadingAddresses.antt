-- How the address of a client is read, part by part, in the order of the code. It gives what `Names` says.
use Rattle.std.specs.Prelude.{ℕ, ◌+◌, ◌*◌, ◌==◌, ◌||◌, List, [], ◌∷◌, length, take, drop, Option, Some, None, nat_lt, nat_le, if◌then◌else◌, option_and_then, codes}
use Rattle.std.specs.List.{position}
use Rattle.std.specs.Char.{digit_value}
use Rattle.std.specs.Str.{bytes_eq}
use Rattle.std.specs.declared.net.socket_addr.SocketAddrV4.{SocketAddrV4}
use Rattle.std.specs.Net.Addr.{ipv4_octets}
use Rattle.std.specs.Net.Socket.{v4_ip, v4_port}
use Rattle.nfs_forms.specs.declared.callback.Address.{Address}

infixl 10 ◌>>=◌
abbrev pub ◌>>=◌ : {A B : Type 0} → Option A → (A → Option B) → Option B
o >>= f = option_and_then f o

-- the number that these digits make of the one before them, if they are decimal digits
abbrev pub digits_after : ℕ → List ℕ → Option ℕ
digits_after n [] = Some n
digits_after n (c ∷ cs) =
    if nat_lt (digit_value c) 10 then digits_after (n * 10 + digit_value c) cs else None

abbrev pub small : ℕ → Option ℕ
small n = if nat_le n 255 then Some n else None

abbrev pub number_at : List ℕ → Option ℕ
number_at text =
    if (length text == 0) || nat_lt 3 (length text) then None
    else digits_after 0 text >>= small

-- the number before the first dot, and the text after the dot
abbrev pub part_at : List ℕ → Option (ℕ × List ℕ)
part_at text = do
  dot ← position (λ byte. byte == 46) text
  n ← number_at (take dot text)
  Some (n, drop (dot + 1) text)

-- the octets and the port, unless the port is 0
abbrev pub socket_of : List ℕ → ℕ → Option (List ℕ × ℕ)
socket_of octets port = if port == 0 then None else Some (octets, port)

abbrev pub universal_at : List ℕ → Option (List ℕ × ℕ)
universal_at text = do
  h1 ← part_at text
  h2 ← part_at h1.1
  h3 ← part_at h2.1
  h4 ← part_at h3.1
  p1 ← part_at h4.1
  p2 ← number_at p1.1
  socket_of (h1.0 ∷ h2.0 ∷ h3.0 ∷ h4.0 ∷ []) (p1.0 * 256 + p2)

abbrev pub socket_at : Address → Option (List ℕ × ℕ)
socket_at address = if bytes_eq address.netid (codes "tcp") then universal_at address.addr else None

-- the octets and the port of a socket
abbrev pub parts_of : SocketAddrV4 → List ℕ × ℕ
parts_of socket = (ipv4_octets (v4_ip socket), v4_port socket)
