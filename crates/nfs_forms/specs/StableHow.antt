-- stable_how4 (RFC 7530, section 16.36; RFC 7531): how much of what is written is to be, or is, in stable storage when
-- the server answers.
use Rattle.std.specs.Prelude.{◌≡◌, ℕ, [], ◌∷◌, Some, ◌==◌, List}
use Rattle.std.proofs.Common.{refl}
use Rattle.std.specs.List.{find}
use Rattle.nfs_forms.specs.declared.stable_how.StableHow.{StableHow}
use Rattle.nfs_forms.specs.declared.stable_how.StableHow.TheVariants.{Unstable, DataSync, FileSync}
use Rattle.xdr.specs.Form.{Form, enumeration}

-- enum stable_how4 { UNSTABLE4 = 0, DATA_SYNC4 = 1, FILE_SYNC4 = 2 };
abbrev pub number_of : StableHow → ℕ
number_of Unstable = 0
number_of DataSync = 1
number_of FileSync = 2

abbrev pub stabilities : List StableHow
stabilities = Unstable ∷ DataSync ∷ FileSync ∷ []

pub known : (s : StableHow) → find (λ v. number_of v == number_of s) stabilities ≡ Some s
known Unstable = refl
known s = refl

unfoldable pub stable_how : Form StableHow
stable_how = enumeration number_of stabilities known
