-- stateid4 (RFC 7530, section 9.1.4). This server writes into the 12 bytes of `other` the clientid and the state's
-- number.
use Rattle.std.specs.Prelude.{ℕ, ◌+◌, ◌-◌, ◌^◌, Bool, ◌==◌, ◌&&◌, ◌||◌, if◌then◌else◌}
use Rattle.std.proofs.Common.{refl}
use Rattle.nfs_forms.specs.ClientId.{client_id}
use Rattle.nfs_forms.specs.declared.stateid.Stateid.{Stateid}
use Rattle.xdr.specs.Form.{Form, ◌and◌, of, u32}

-- struct stateid4 { uint32_t seqid; opaque other[NFS4_OTHER_SIZE]; };
unfoldable pub stateid : Form Stateid
stateid = of (λ p. record { seqid = p.0; client = p.1.0; number = p.1.1 })
    (λ s. (s.seqid, (s.client, s.number)))
    (λ p. refl) (λ s. refl) (u32 and client_id and u32)

-- the seqid that comes after this one at the state's next change: after 2^32 - 1 comes 1 (section 9.1.4)
abbrev pub seqid_after_change : ℕ → ℕ
seqid_after_change seqid = if seqid == 2 ^ 32 - 1 then 1 else seqid + 1

-- the stateid after the state's next change
abbrev pub next_stateid : Stateid → Stateid
next_stateid s = record s { seqid = seqid_after_change s.seqid }

-- each of the four words of the stateid is this number
abbrev pub is_all : ℕ → Stateid → Bool
is_all word id =
    (id.seqid == word) && (id.client.epoch == word) && (id.client.number == word)
    && (id.number == word)

-- A special stateid: all bits are zero, or all are one (section 9.1.4.3). It names no state.
abbrev pub is_special : Stateid → Bool
is_special id = is_all 0 id || is_all (2 ^ 32 - 1) id
