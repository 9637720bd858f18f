-- What actions come to is fixed by what was read.
use Rattle.std.proofs.Common.{◌≡◌, ◌≢◌, ℕ, false, List, [], ◌∷◌, ◌++◌, refl, sym, ap, subst, ◌∙◌}
use Rattle.std.specs.declared.option.Option.{Option}
use Rattle.std.specs.declared.option.Option.TheVariants.{None, Some}
use Rattle.std.specs.declared.result.Result.{Result}
use Rattle.std.specs.declared.result.Result.TheVariants.{Ok, Err}
use Rattle.std.specs.Option.{option_map}
use Rattle.std.specs.FinMap.{get}
use Rattle.orc_path.specs.Steps.{PathStep}
use Rattle.orc_path.specs.Views.{Viewed}
use Rattle.orc_path.specs.Configurations.{Config}
use Rattle.orc_path.specs.declared.shape.Shape.{Shape}
use Rattle.orc_path.specs.declared.item.Write.TheVariants as write
use Rattle.orc_call.specs.declared.answer.Answer.{Answer}
use Rattle.orc_call.specs.declared.call.Action.{Action}
use Rattle.orc_call.specs.declared.call.Action.TheVariants.{Create, Modify, Redeploy}
use Rattle.orc_expr.specs.declared.read.Read.{Read}
use Rattle.orc_expr.specs.Reads.{Shares, SharesRead}
use Rattle.orc_expr.specs.Touches.{write_touches_any}
use Rattle.orc_expr.specs.Laws.{UntouchedIsShared}
use Rattle.orc_template.specs.Devices.{DeviceTable}
use Rattle.orc_template.specs.Expansions.{Expanding, Failed, expanded, reads_expanded}
use Rattle.orc_template.specs.Laws.{ExpansionsAreFixed}
use Rattle.orc_template.specs.TheReaders.{the_readers}
use Rattle.orc_services.specs.Services.{Serving, Instance, expansion_at, expansion_of, instance_of}
use Rattle.orc_services.specs.Expanded.{ExpandedTo, as_literal, expanded_actions, expanded_by, expanded_action}
use Rattle.orc_services.specs.Laws.{ExpandedIsFixedByReads, ExpandedStands}
use Rattle.orc_services.specs.declared.list.ServiceList.{ServiceList}
use Rattle.orc_expr.proofs.Sound.{All-front, All-back}

module _ (law : ExpansionsAreFixed) (lists : List ServiceList) (devices : DeviceTable) where
  abbrev on : Viewed → Serving
  on view = record { lists = lists; devices = devices; view = view }

  -- the reads of an expansion
  abbrev reads_of : Option (Result Expanding Failed) → List Read
  reads_of None = []
  reads_of (Some due) = reads_expanded due

  literal_reads : (names : List (List ℕ)) (id : List ℕ) (o : Option (Result Expanding Failed)) → (as_literal names id o).reads ≡ reads_of o
  literal_reads names id None = refl
  literal_reads names id (Some (Ok e)) = refl
  literal_reads names id (Some (Err failed)) = refl

  expansion_fixed : (view other : Viewed) (o : Option Instance) → Shares view other (reads_of (option_map (expansion_at (on view)) o))
      → option_map (expansion_at (on other)) o ≡ option_map (expansion_at (on view)) o
  expansion_fixed view other None shares = refl
  expansion_fixed view other (Some it) shares = ap Some (law the_readers devices it.path it.template view other shares)

  service_fixed : (view other : Viewed) (id : List ℕ)
      → Shares view other (as_literal devices.names id (expansion_of (on view) id)).reads
      → as_literal devices.names id (expansion_of (on other) id) ≡ as_literal devices.names id (expansion_of (on view) id)
  service_fixed view other id shares =
      ap (as_literal devices.names id)
      (expansion_fixed view other (instance_of lists id)
      (subst (Shares view other) (literal_reads devices.names id (expansion_of (on view) id)) shares))

  one_fixed : (view other : Viewed) (action : Action) → Shares view other (expanded_action (on view) action).reads
      → expanded_action (on other) action ≡ expanded_action (on view) action
  one_fixed view other (Create id body) shares = service_fixed view other id shares
  one_fixed view other (Modify id body) shares = service_fixed view other id shares
  one_fixed view other (Redeploy id) shares = service_fixed view other id shares
  one_fixed view other rest shares = refl

  front_shared : (view other : Viewed) (reads more : List Read) → Shares view other (reads ++ more) → Shares view other reads
  front_shared view other reads more shares =
      record { shapes = shares.shapes; read = All-front (SharesRead view other) reads more shares.read }

  back_shared : (view other : Viewed) (reads more : List Read) → Shares view other (reads ++ more) → Shares view other more
  back_shared view other reads more shares =
      record { shapes = shares.shapes; read = All-back (SharesRead view other) reads more shares.read }

  -- what is shared is what an action read, and, where it is expanded, what the later ones read
  first_shared : (view other : Viewed) (o : Result Action Answer) (reads : List Read) (later : ExpandedTo (List Action))
      → Shares view other (expanded_by o reads later).reads → Shares view other reads
  first_shared view other (Ok action) reads later shares = front_shared view other reads later.reads shares
  first_shared view other (Err answer) reads later shares = shares

  later_same : (view other : Viewed) (o : Result Action Answer) (reads : List Read) (later later' : ExpandedTo (List Action))
      → (Shares view other later.reads → later' ≡ later) → Shares view other (expanded_by o reads later).reads
      → expanded_by o reads later' ≡ expanded_by o reads later
  later_same view other (Ok action) reads later later' fixed shares =
      ap (expanded_by (Ok action) reads) (fixed (back_shared view other reads later.reads shares))
  later_same view other (Err answer) reads later later' fixed shares = refl

  pub all_fixed : (view other : Viewed) (actions : List Action) → Shares view other (expanded_actions (on view) actions).reads
      → expanded_actions (on other) actions ≡ expanded_actions (on view) actions
  all_fixed view other [] shares = refl
  all_fixed view other (action ∷ actions) shares =
      let one = expanded_action (on view) action in
      let later = expanded_actions (on view) actions in
      ap (λ (x : ExpandedTo Action). expanded_by x.outcome x.reads (expanded_actions (on other) actions))
      (one_fixed view other action (first_shared view other one.outcome one.reads later shares))
      ∙ later_same view other one.outcome one.reads later (expanded_actions (on other) actions) (all_fixed view other actions) shares

pub expanded_fixed : ExpansionsAreFixed → ExpandedIsFixedByReads
expanded_fixed law lists devices actions view other shares = all_fixed law lists devices view other actions shares

pub expanded_stands : ExpandedIsFixedByReads → UntouchedIsShared → ExpandedStands
expanded_stands fixed untouched lists devices actions shapes old new off =
    fixed lists devices actions (record { items = old; shapes = shapes }) (record { items = new; shapes = shapes })
    (untouched old new shapes _ off)
