-- How and at which address the server calls a client back (RFC 7530, section 2.2; RFC 7531).
use Rattle.std.proofs.Common.{refl}
use Rattle.nfs_forms.specs.declared.callback.Address.{Address}
use Rattle.nfs_forms.specs.declared.callback.Callback.{Callback}
use Rattle.xdr.specs.Form.{Form, ◌and◌, of, u32, bytes}

-- struct clientaddr4 { string r_netid<>; string r_addr<>; };
unfoldable pub address : Form Address
address =
    of (λ p. record { netid = p.0; addr = p.1 }) (λ a. (a.netid, a.addr)) (λ p. refl) (λ a. refl)
    (bytes and bytes)

-- struct cb_client4 { unsigned int cb_program; clientaddr4 cb_location; }; followed by uint32_t callback_ident
unfoldable pub callback : Form Callback
callback = of (λ p. record { program = p.0; address = p.1.0; ident = p.1.1 })
    (λ c. (c.program, (c.address, c.ident)))
    (λ p. refl) (λ c. refl) (u32 and address and u32)
