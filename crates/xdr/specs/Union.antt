-- The form of a union: that of its tag, followed by what the tag calls for.
use Rattle.std.specs.Prelude.{◌++◌}
use Rattle.xdr.specs.Layout.{◌⨾◌}
use Rattle.xdr.specs.Reading.{◌>>=◌}
use Rattle.xdr.specs.Form.{Form}
use Rattle.xdr.specs.Switch.{Case, Arm, Agrees, IsRead, case_at}
use Rattle.xdr.specs.laws.Switches.{reads_switch, switch_is_encoded}

-- union switch (tag)
abbrev pub switch : {K V : Type 0}
    → (tag : Form K) (cases : K → Case V) (tag_of : V → K) (arm_of : V → Arm V)
    → ((k : K) → Agrees tag_of arm_of k (cases k))
    → ((value : V) → IsRead cases tag_of arm_of value) → Form V
switch tag cases tag_of arm_of agree is_read = record {
  layout = λ value. tag.layout (tag_of value) ⨾ (arm_of value).layout;
  at = λ bytes. tag.at bytes >>= λ k. case_at (cases k.0) k.1;
  encoding = λ value. tag.encoding (tag_of value) ++ (arm_of value).encoding;
  Fits = λ value. tag.Fits (tag_of value) × (arm_of value).Fits;
  reads = reads_switch tag cases tag_of arm_of agree is_read;
  encodes = λ value fits. switch_is_encoded tag tag_of arm_of value fits.0 fits.1;
}
