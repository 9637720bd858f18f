-- What expanded actions that meet no clash make of a state.
use Rattle.std.proofs.Common.{◌≡◌, ℕ, List, ◌++◌, map, length, IsTrue, None, Some, sym, ap, subst, ◌∙◌}
use Rattle.std.specs.declared.option.Option.{Option}
use Rattle.std.specs.declared.result.Result.{Result}
use Rattle.std.specs.declared.result.Result.TheVariants.{Ok, Err}
use Rattle.std.specs.List.{flat_map}
use Rattle.std.proofs.lemmas.List.{length-map}
use Rattle.orc_path.specs.Configurations.{Config}
use Rattle.orc_call.specs.declared.answer.Answer.{Answer}
use Rattle.orc_call.specs.declared.call.Action.{Action}
use Rattle.orc_refs.specs.Stores.{Store}
use Rattle.orc_datastore.specs.States.{Datastore}
use Rattle.orc_datastore.specs.Actions.{bases_after, live_after, name_each_once}
use Rattle.orc_datastore.specs.Next.{clash}
use Rattle.orc_datastore.specs.inside.Behind.{changed_by}
use Rattle.orc_datastore.specs.inside.Placed.{AreNamedOnce}
use Rattle.orc_datastore.specs.inside.Turns.{AreFresh, comers, left_by, turn_id, turns_of}
use Rattle.orc_datastore.specs.inside.Keeping.{AreBehind, AreKept, IsOpenTo, placed}
use Rattle.orc_datastore.specs.declared.service.Service.{Service}
use Rattle.orc_datastore.specs.declared.turns.Turn.{Turn}
use Rattle.orc_datastore.proofs.Placing.{after-is, comers-fresh, live-behind, placed-bases, placed-kept}

-- what is known of a state, with its parts, and of actions
pub record Course (s : Datastore) (names : List (List ℕ)) (acts : List Action) (live : List Service) (stores : List Store) : Type 0 where
  pub first : Config
  pub view : record { «data» = first; bases = map (λ (store : Store). store.base) stores; live = live } ≡ s
  pub kept : AreKept stores live
  pub bases : length s.bases ≡ length names
  pub once : IsTrue (name_each_once acts)

module _ (s : Datastore) (names : List (List ℕ)) (acts : List Action) (live : List Service) (stores : List Store) (c : Course s names acts live stores) where
  pub course-open : AreNamedOnce live → IsOpenTo live acts
  course-open differ = record { once = c.once; differ = differ }

  same_live : live ≡ s.live
  same_live = ap (λ (z : Datastore). z.live) c.view

  -- what was found
  pub found-none : (slice : List Store) (changes : List (Option Store)) (found : Result (List (Option Store)) Answer)
      → AreBehind names live acts slice found → slice ≡ stores → found ≡ Ok changes → AreBehind names live acts stores (Ok changes)
  found-none slice changes found behind same is =
      subst (λ (l : List Store). AreBehind names live acts l (Ok changes)) same (subst (AreBehind names live acts slice) is behind)

  pub refused-is : (slice : List Store) (found : Result (List (Option Store)) Answer) (answer : Answer)
      → AreBehind names live acts slice found → found ≡ Err answer → Some answer ≡ clash names s.live acts
  refused-is slice found answer behind is =
      sym (subst (AreBehind names live acts slice) is behind) ∙ ap (λ (l : List Service). clash names l acts) same_live

  pub done-unrefused : (changes : List (Option Store)) → AreBehind names live acts stores (Ok changes) → None ≡ clash names s.live acts
  done-unrefused changes behind = sym behind.2 ∙ ap (λ (l : List Service). clash names l acts) same_live

  course_count : length stores ≡ length names
  course_count = sym (length-map stores (λ (store : Store). store.base)) ∙ ap (λ (z : Datastore). length z.bases) c.view ∙ c.bases

  -- the services that come
  pub course-fresh : (turns : List Turn) (ids : List (List ℕ)) (services : List Service) → turns ≡ flat_map (turns_of names) acts
      → ids ≡ map turn_id turns → services ≡ flat_map comers turns → AreFresh (left_by live ids) services
  course-fresh turns ids services ts is made =
      comers-fresh names live acts ids services c.once (is ∙ ap (map turn_id) ts) (made ∙ ap (flat_map comers) ts)

  course_live : (turns : List Turn) (ids : List (List ℕ)) (services new : List Service) → turns ≡ flat_map (turns_of names) acts
      → ids ≡ map turn_id turns → services ≡ flat_map comers turns → new ≡ left_by live ids ++ services → new ≡ live_after names acts live
  course_live turns ids services new ts is made whole =
      live-behind names live new acts ids services c.once (is ∙ ap (map turn_id) ts) (made ∙ ap (flat_map comers) ts) whole

  pub done-kept : (new : List Store) (changes : List (Option Store)) (turns : List Turn) (ids : List (List ℕ)) (services less : List Service)
      → AreBehind names live acts stores (Ok changes) → turns ≡ flat_map (turns_of names) acts → ids ≡ map turn_id turns
      → services ≡ flat_map comers turns → less ≡ left_by live ids ++ services → new ≡ placed stores changes → AreKept new less
  done-kept new changes turns ids services less behind ts is made whole put =
      subst (λ (l : List Store). AreKept l less) (sym put)
      (subst (AreKept (placed stores changes)) (sym (course_live turns ids services less ts is made whole))
      (placed-kept names live acts stores changes c.kept course_count behind.0 behind.1))

  pub done-after : (config : Config) (new : List Store) (changes : List (Option Store)) (turns : List Turn) (ids : List (List ℕ)) (services less : List Service)
      → AreBehind names live acts stores (Ok changes) → turns ≡ flat_map (turns_of names) acts → ids ≡ map turn_id turns
      → services ≡ flat_map comers turns → less ≡ left_by live ids ++ services → new ≡ placed stores changes
      → record { «data» = config; bases = map (λ (store : Store). store.base) new; live = less } ≡ changed_by names acts config s
  done-after config new changes turns ids services less behind ts is made whole put =
      let base : Store → Config = λ store. store.base in
      after-is names acts s config (map base new) less
      (ap (map base) put ∙ placed-bases names live acts stores changes course_count behind.0 behind.1
      ∙ ap (bases_after names acts) (ap (λ (z : Datastore). z.bases) c.view))
      (course_live turns ids services less ts is made whole ∙ ap (live_after names acts) same_live)
