-- The stores of devices on which no service writes.
use Rattle.std.proofs.Common.{◌≡◌, ℕ, List, [], ◌∷◌, ◌++◌, map, All, None, cond, refl, sym, ap, subst, ◌∙◌}
use Rattle.std.specs.declared.option.Option.{Option}
use Rattle.std.specs.Option.{option_map_or}
use Rattle.std.specs.FinMap.{get, get-empty}
use Rattle.std.proofs.lemmas.List.Elements.{All-nil, All-cons, All-contains, All-append}
use Rattle.orc_path.specs.Steps.{PathStep}
use Rattle.orc_path.specs.Order.{path_cmp}
use Rattle.orc_path.specs.Configurations.{Config}
use Rattle.orc_refs.specs.Ids.{holds_id}
use Rattle.orc_refs.specs.Stores.{IsStore, Store, empty_store, written_by}
use Rattle.orc_datastore.specs.inside.Keeping.{AreKept, IsStoreFor}
use Rattle.orc_datastore.specs.declared.service.Service.{Service}
use Rattle.orc_datastore.proofs.LeastClash.{at_place}

nobody : (base : Config) (id : List ℕ) (path : List PathStep) → written_by (empty_store base) id path ≡ None
nobody base id path =
    ap (λ (o : Option (List (List ℕ))). cond (holds_id id (option_map_or (λ ids. ids) o [])) (get base path) None) (get-empty path_cmp path)

pub idle-store : (base : Config) (store : Store) → store ≡ empty_store base → IsStore store → IsStoreFor [] 0 store
idle-store base store is sound = record {
  sound = sound;
  of = record {
    over = refl;
    writers = λ id path. ap (λ (s : Store). written_by s id path) is ∙ nobody base id path;
  };
}

pub opened-kept : (stores : List Store) (live : List Service) → live ≡ [] → All (IsStoreFor [] 0) stores → AreKept stores live
opened-kept stores live none idle = subst (AreKept stores) (sym none) (record {
  each = λ d store at.
      let first = All-contains (IsStoreFor [] 0) stores store idle (at_place stores d store at) in
      record { sound = first.sound; of = first.of };
  parts = All-nil (λ (service : Service). _);
})

pub one-more : (stores : List Store) (store : Store) → All (IsStoreFor [] 0) stores → IsStoreFor [] 0 store → All (IsStoreFor [] 0) (stores ++ store ∷ [])
one-more stores store before idle =
    All-append (IsStoreFor [] 0) stores (store ∷ []) before (All-cons (IsStoreFor [] 0) store [] idle (All-nil (IsStoreFor [] 0)))

pub more-bases : (stores new : List Store) (store : Store) (bases : List Config) (base : Config) → map (λ (s : Store). s.base) stores ≡ bases → store.base ≡ base
    → new ≡ stores ++ store ∷ [] → map (λ (s : Store). s.base) new ≡ bases ++ base ∷ []
more-bases stores new store bases base before is more =
    ap (map (λ (s : Store). s.base)) more ∙ joined stores ∙ ap (λ l. l ++ store.base ∷ []) before ∙ ap (λ b. bases ++ b ∷ []) is
  where
    joined : (xs : List Store) → map (λ (s : Store). s.base) (xs ++ store ∷ []) ≡ map (λ (s : Store). s.base) xs ++ store.base ∷ []
    joined [] = refl
    joined (x ∷ xs) = ap (λ l. x.base ∷ l) (joined xs)
