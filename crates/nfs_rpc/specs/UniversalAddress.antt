-- At which TCP socket a client is called back (clientaddr4; RFC 7530, section 2.2; RFC 5665, section 5.2.3.3).
use Rattle.std.specs.Prelude.{◌≡◌, ℕ, ◌+◌, ◌*◌, ◌<◌, ◌≤◌, List, [], ◌∷◌, length, codes}
use Rattle.std.specs.Str.Parse.{IsNumeral, digits_value}
use Rattle.std.specs.declared.net.socket_addr.SocketAddrV4.{SocketAddrV4}
use Rattle.std.specs.Net.Addr.{ipv4_octets}
use Rattle.std.specs.Net.Socket.{v4_ip, v4_port}
use Rattle.nfs_forms.specs.declared.callback.Address.{Address}
use Rattle.xdr.specs.Layout.{◌⨾◌}

-- The text is this number, from 0 to 255, in one to three decimal digits. Zeros may lead, as in `08`.
abbrev pub Decimal : ℕ → List ℕ → Type 0
Decimal n text = IsNumeral 10 text × (length text ≤ 3) × (digits_value 10 text ≡ n) × (n ≤ 255)

abbrev pub Dot : List ℕ → Type 0
Dot text = text ≡ codes "."

-- a number, and a dot after it
abbrev pub Part : ℕ → List ℕ → Type 0
Part n = Decimal n ⨾ Dot

-- The text is a universal address, h1.h2.h3.h4.p1.p2: the four numbers of an IPv4 address, and the two of a port, the
-- high one first.
abbrev pub IsUniversal : List ℕ → List ℕ → ℕ → Type 0
IsUniversal text octets port =
    (h1 : ℕ) × (h2 : ℕ) × (h3 : ℕ) × (h4 : ℕ) × (p1 : ℕ) × (p2 : ℕ)
    × (Part h1 ⨾ Part h2 ⨾ Part h3 ⨾ Part h4 ⨾ Part p1 ⨾ Decimal p2) text
    × (octets ≡ h1 ∷ h2 ∷ h3 ∷ h4 ∷ []) × (port ≡ p1 * 256 + p2)

-- The address names this socket: the transport is `tcp`, and the port isn't 0, at which nobody can be called.
abbrev pub Names : Address → SocketAddrV4 → Type 0
Names address socket =
    (address.netid ≡ codes "tcp")
    × IsUniversal address.addr (ipv4_octets (v4_ip socket)) (v4_port socket)
    × (0 < v4_port socket)
