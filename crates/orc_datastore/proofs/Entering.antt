-- What a call enters among what is known.
use Rattle.std.proofs.Common.{◌≡◌, ℕ, ◌<◌, ◌^◌, List, [], ◌∷◌, length, map, All, IsTrue, sym, ap, ◌∙◌, subst, arith}
use Rattle.std.specs.List.{flat_map}
use Rattle.std.proofs.lemmas.List.Elements.{All-nil, All-cons, All-head, All-tail, All-append, All-weaker}
use Rattle.orc_path.specs.Alphabet.{is_key}
use Rattle.orc_call.specs.declared.call.Action.{Action}
use Rattle.orc_call.specs.declared.call.Action.TheVariants.{Literal, Delete}
use Rattle.orc_datastore.specs.inside.Sights.{service_key}
use Rattle.orc_datastore.specs.inside.Turns.{comers, turn_id, turns_of}
use Rattle.orc_datastore.specs.declared.service.Service.{Service}
use Rattle.orc_datastore.specs.declared.turns.Turn.{Turn}
use Rattle.orc_datastore.specs.declared.turns.Turn.TheVariants.{Comes, Goes}
use Rattle.orc_datastore.proofs.Kept.{made-complete}
use Rattle.orc_datastore.proofs.Placing.{comers-made}

abbrev HasKey : Turn → Type 0
HasKey turn = IsTrue (is_key (turn_id turn))

one_turn : (names : List (List ℕ)) (action : Action) → IsTrue (service_key action) → All HasKey (turns_of names action)
one_turn names (Literal id writes) h = All-cons HasKey (Comes _) [] h (All-nil HasKey)
one_turn names (Delete id) h = All-cons HasKey (Goes id) [] h (All-nil HasKey)
one_turn names other h = All-nil HasKey

all_turns : (names : List (List ℕ)) (actions : List Action) → All (λ action. IsTrue (service_key action)) actions → All HasKey (flat_map (turns_of names) actions)
all_turns names [] h = All-nil HasKey
all_turns names (action ∷ actions) h =
    All-append HasKey (turns_of names action) (flat_map (turns_of names) actions)
    (one_turn names action (All-head (λ (a : Action). IsTrue (service_key a)) action actions h))
    (all_turns names actions (All-tail (λ (a : Action). IsTrue (service_key a)) action actions h))

ids_keyed : (turns : List Turn) → All HasKey turns → All (λ id. IsTrue (is_key id)) (map turn_id turns)
ids_keyed [] h = All-nil (λ (id : List ℕ). IsTrue (is_key id))
ids_keyed (turn ∷ turns) h =
    All-cons (λ (id : List ℕ). IsTrue (is_key id)) (turn_id turn) (map turn_id turns) (All-head HasKey turn turns h) (ids_keyed turns (All-tail HasKey turn turns h))

one_comer : (turn : Turn) → HasKey turn → All (λ s. IsTrue (is_key s.id)) (comers turn)
one_comer (Comes service) h = All-cons (λ (s : Service). IsTrue (is_key s.id)) service [] h (All-nil (λ (s : Service). IsTrue (is_key s.id)))
one_comer (Goes id) h = All-nil (λ (s : Service). IsTrue (is_key s.id))

comers_keyed : (turns : List Turn) → All HasKey turns → All (λ s. IsTrue (is_key s.id)) (flat_map comers turns)
comers_keyed [] h = All-nil (λ (s : Service). IsTrue (is_key s.id))
comers_keyed (turn ∷ turns) h =
    All-append (λ (s : Service). IsTrue (is_key s.id)) (comers turn) (flat_map comers turns)
    (one_comer turn (All-head HasKey turn turns h)) (comers_keyed turns (All-tail HasKey turn turns h))

module _ (names : List (List ℕ)) (actions : List Action) (turns : List Turn) (is : turns ≡ flat_map (turns_of names) actions) where
  module _ (keys : All (λ action. IsTrue (service_key action)) actions) where
    keyed : All HasKey turns
    keyed = subst (All HasKey) (sym is) (all_turns names actions keys)

    pub turn_keys : (ids : List (List ℕ)) → ids ≡ map turn_id turns → All (λ id. IsTrue (is_key id)) ids
    turn_keys ids same = subst (All (λ (id : List ℕ). IsTrue (is_key id))) (sym same) (ids_keyed turns keyed)

    pub comer_keys : (services : List Service) → services ≡ flat_map comers turns → All (λ service. IsTrue (is_key service.id)) services
    comer_keys services same = subst (All (λ (s : Service). IsTrue (is_key s.id))) (sym same) (comers_keyed turns keyed)

  pub comers_few : length names < 2 ^ 32 → (services : List Service) → services ≡ flat_map comers turns → All (λ service. length service.parts < 2 ^ 32) services
  comers_few few services same =
      All-weaker (λ (s : Service). length s.parts ≡ length names) (λ (s : Service). length s.parts < 2 ^ 32) (λ s e. omega (arith, e, few)) services
      (made-complete names actions services (same ∙ ap (flat_map comers) is ∙ comers-made names actions))
