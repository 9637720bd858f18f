-- What each call keeps of a state.
use Rattle.std.proofs.Common.{◌≡◌, ℕ, ◌<◌, ◌^◌, List, [], ◌∷◌, inl, inr, length, All, IsTrue, None, sym, ap, subst, ◌∙◌, arith}
use Rattle.std.specs.List.{flat_map, Contains}
use Rattle.std.specs.FinMap.{empty}
use Rattle.std.proofs.lemmas.List.{length-map}
use Rattle.std.proofs.lemmas.List.Elements.{All-nil, All-append, All-weaker, All-contains, All-contains_itself}
use Rattle.std.proofs.lemmas.List.Sums.{AllPass-from_list_all}
use Rattle.orc_path.specs.Configurations.{Config}
use Rattle.orc_call.specs.declared.call.Call.{Call}
use Rattle.orc_call.specs.declared.call.Action.{Action}
use Rattle.orc_decls.specs.Devices.{names_of}
use Rattle.orc_datastore.specs.States.{puts_on, Datastore}
use Rattle.orc_decls.specs.Openings.{put_all}
use Rattle.orc_datastore.specs.Actions.{bases_after, live_after, new_services}
use Rattle.orc_datastore.specs.Next.{IsStateOf, after, refusal, expanded_call, expanded_to}
use Rattle.orc_decls.specs.Calls.{is_lawful_name}
use Rattle.orc_decls.specs.Declarations.{AreDecls}
use Rattle.orc_decls.specs.declared.declarations.Decls.{Decls}
use Rattle.orc_decls.specs.declared.declarations.Device.{Device}
use Rattle.orc_datastore.specs.declared.service.Service.{Service}
use Rattle.orc_datastore.proofs.Agreement.{IsMade, Origin, origin, made_is_made}
use Rattle.orc_datastore.proofs.Bases.{bases-count}
use Rattle.orc_datastore.proofs.DataLaws.{after_valid}
use Rattle.orc_decls.proofs.Declared.{names-lawful}

-- the opening

pub decls-names : (decls : Decls) → AreDecls decls → All (λ name. IsTrue (is_lawful_name name)) decls.names
decls-names decls are =
    subst (λ (names : List (List ℕ)). All (λ name. IsTrue (is_lawful_name name)) names) (sym are.named)
    (AllPass-from_list_all is_lawful_name (names_of decls.devices) (names-lawful decls.schemas decls.devices are.devices))

-- so many names as devices
pub decls-count : (decls : Decls) → AreDecls decls → length decls.devices ≡ length decls.names
decls-count decls are = sym (length-map decls.devices (λ (device : Device). device.name)) ∙ sym (ap (λ (names : List (List ℕ)). length names) are.named)

pub decls-few : (decls : Decls) → AreDecls decls → length decls.names < 2 ^ 32
decls-few decls are = omega (arith, are.few, decls-count decls are)

-- a call

made-count : (devices : List (List ℕ)) (s : Service) → IsMade devices s → length s.parts ≡ length devices
made-count devices s made =
    ap (λ (parts : List Config). length parts) made.1 ∙ length-map devices (λ name. put_all (puts_on name made.0) empty)

pub behind-complete : (devices : List (List ℕ)) (actions : List Action) (live : List Service) (n : ℕ) → n ≡ length devices
    → All (λ s. length s.parts ≡ n) live → All (λ s. length s.parts ≡ n) (live_after devices actions live)
behind-complete devices actions live n is all =
    All-weaker (Contains (live_after devices actions live)) (λ (s : Service). length s.parts ≡ n)
    (λ s c. on s (origin devices actions live s c)) (live_after devices actions live) (All-contains_itself (live_after devices actions live))
  where
    on : (s : Service) → Origin devices actions live s → length s.parts ≡ n
    on s (inl old) = All-contains (λ (x : Service). length x.parts ≡ n) live s all old.0
    on s (inr new) = made-count devices s new.1 ∙ sym is

pub after-kept : (decls : Decls) (s : Datastore) (call : Call) → IsStateOf decls s → refusal decls s call ≡ None → IsStateOf decls (after decls s call)
after-kept decls s call kept h =
    let acts = expanded_to (expanded_call decls s call) in
    let count = bases-count decls.names acts s.bases in
    let bases : length (bases_after decls.names acts s.bases) ≡ length decls.names = count ∙ kept.bases in
    record {
      bases = bases;
      complete =
          behind-complete decls.names acts s.live (length (bases_after decls.names acts s.bases)) bases
          (All-weaker (λ (x : Service). length x.parts ≡ length s.bases) (λ (x : Service). length x.parts ≡ length (bases_after decls.names acts s.bases))
          (λ x e. e ∙ sym count) s.live kept.complete);
      valid = after_valid decls s call h;
    }

-- the services that are made have a part on each device, and so have the living ones with them

all_made : (devices : List (List ℕ)) (actions : List Action) → All (IsMade devices) (flat_map (new_services devices) actions)
all_made devices [] = All-nil (IsMade devices)
all_made devices (action ∷ actions) = All-append (IsMade devices) (new_services devices action) (flat_map (new_services devices) actions) (made_is_made devices action) (all_made devices actions)

pub made-complete : (devices : List (List ℕ)) (actions : List Action) (made : List Service) → made ≡ flat_map (new_services devices) actions
    → All (λ service. length service.parts ≡ length devices) made
made-complete devices actions made is =
    subst (All (λ (x : Service). length x.parts ≡ length devices)) (sym is)
    (All-weaker (IsMade devices) (λ (x : Service). length x.parts ≡ length devices) (λ x e. made-count devices x e)
    (flat_map (new_services devices) actions) (all_made devices actions))
