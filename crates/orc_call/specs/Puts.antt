-- The bytes of puts, as they are written one after another.
use Rattle.std.specs.Prelude.{ℕ, List, ◌++◌}
use Rattle.orc_path.specs.Texts.{path_text}
use Rattle.orc_call.specs.declared.call.Put.{Put}
use Rattle.orc_call.specs.declared.call.DevicePut.{DevicePut}
use Rattle.orc_call.specs.Fields.{text_bytes, item_bytes}

abbrev pub put_bytes : Put → List ℕ
put_bytes put = text_bytes (path_text put.path) ++ item_bytes put.item

abbrev pub device_put_bytes : DevicePut → List ℕ
device_put_bytes put = text_bytes put.device ++ text_bytes (path_text put.path) ++ item_bytes put.item
