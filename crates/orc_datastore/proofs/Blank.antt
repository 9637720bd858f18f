-- What holds nothing on a device.
use Rattle.std.proofs.Common.{◌≡◌, ℕ, zero, suc, Bool, true, false, ◌&&◌, not, ◌==◌, List, [], ◌∷◌, refl, sym, ap, ◌∙◌}
use Rattle.std.specs.Prelude.{if◌then◌else◌}
use Rattle.std.specs.FinMap.{empty, empty_of_len, len}
use Rattle.std.proofs.lemmas.Bool.{false≢true, eqb-true}
use Rattle.orc_path.specs.Configurations.{Config}
use Rattle.orc_call.specs.declared.call.DevicePut.{DevicePut}
use Rattle.orc_datastore.specs.States.{config_of, expansion, puts_on}
use Rattle.orc_decls.specs.Devices.{is_same_text, name_of}
use Rattle.orc_decls.specs.Openings.{put_all}
use Rattle.orc_datastore.specs.Touched.{is_written_by}
use Rattle.orc_decls.proofs.Lists.{or_first, or_second}

-- of writes of which none is on the device

none_on : (name : List ℕ) (writes : List DevicePut) → is_written_by writes name ≡ false → puts_on name writes ≡ []
none_on name [] h = refl
none_on name (w ∷ ws) h =
    ap (λ t. if t then record { path = w.path; item = w.item } ∷ puts_on name ws else puts_on name ws) (or_first (is_same_text w.device name) (is_written_by ws name) h)
    ∙ none_on name ws (or_second (is_same_text w.device name) (is_written_by ws name) h)

pub blank_part : (devices : List (List ℕ)) (writes : List DevicePut) (d : ℕ) → is_written_by writes (name_of devices d) ≡ false → config_of (expansion devices writes) d ≡ empty
blank_part [] writes d h = refl
blank_part (name ∷ devices) writes zero h = ap (λ puts. put_all puts empty) (none_on name writes h)
blank_part (name ∷ devices) writes (suc d) h = blank_part devices writes d h

-- it holds nothing there
pub holds_nothing : (m : Config) → (len m == 0) ≡ true → m ≡ empty
holds_nothing m h = empty_of_len m (eqb-true _ _ h)

pub held : (t : Bool) (m : Config) → t ≡ true → (t && not (len m == 0)) ≡ false → m ≡ empty
held true m is h = holds_nothing m (on (len m == 0) h)
  where
    on : (b : Bool) → not b ≡ false → b ≡ true
    on true e = refl
    on false e = absurd (false≢true (sym e))
held false m is h = absurd (false≢true is)
