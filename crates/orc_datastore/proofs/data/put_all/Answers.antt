use Rattle.orc_path.specs.Items.{fits}
use Rattle.orc_decls.proofs.Fits.{list_all-read}
use Rattle.orc_call.specs.declared.call.Put.{Put}
use Rattle.orc_datastore.proofs.data.put_all.Goals as goal

pub set-requires : goal.set-requires
set-requires c =
    let fit = list_all-read (λ (p : Put). fits p.path p.item) c.args.puts.now c.loop-put.put-index c.put-item.result c.loop-put-test.true c.put-item.is c.requires in
    record { fits = rw (c.in_ok-copy.ensures, c.in_ok-copy-2.ensures) fit }
