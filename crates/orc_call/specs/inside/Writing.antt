-- Writing: what is added to the bytes, and puts whose texts fit their fields.
use Rattle.std.specs.Prelude.{◌≡◌, ℕ, List, ◌++◌, Result, OnOk}
use Rattle.orc_path.specs.Texts.{path_text}
use Rattle.orc_call.specs.declared.call.Put.{Put}
use Rattle.orc_call.specs.declared.call.DevicePut.{DevicePut}
use Rattle.orc_call.specs.Fields.{IsText, IsItem}

-- where all went well, these bytes stand after the old ones
abbrev pub Adds : {X E : Type 0} → Result X E → List ℕ → List ℕ → List ℕ → Type 0
Adds result old new bytes = OnOk result (new ≡ old ++ bytes)

pub record IsPutFit (put : Put) : Type 0 where
  pub path : IsText (path_text put.path)
  pub item : IsItem put.item

pub record IsDevicePutFit (put : DevicePut) : Type 0 where
  pub device : IsText put.device
  pub path : IsText (path_text put.path)
  pub item : IsItem put.item
