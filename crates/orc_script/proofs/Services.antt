-- The path of a service, and its id.
use Rattle.std.proofs.Common.{◌≡◌, true, false, ℕ, List, Option, ap, subst, ◌∙◌}
use Rattle.std.specs.Option.{option_map_or}
use Rattle.orc_path.specs.Reading.{path_of}
use Rattle.orc_path.specs.Steps.{PathStep, is_path}
use Rattle.orc_path.specs.Texts.{path_text}
use Rattle.orc_path.proofs.PathOf.{path_of_text}
use Rattle.orc_schema_nodes.specs.Schemas.{SchemaTable}
use Rattle.orc_services.specs.declared.list.ServiceList.{ServiceList}
use Rattle.orc_call.specs.declared.call.Put.{Put}
use Rattle.orc_decls.specs.Calls.{has_body, is_body, is_service, is_service_path}
use Rattle.orc_decls.specs.declared.declarations.Decls.{Decls}
use Rattle.orc_lines.specs.Items.{is_service_at}

-- the text of a service's path is its id; that the path is one is in what its place says
pub service_known : (decls : Decls) (lists : List ServiceList) (schema : SchemaTable) (path : List PathStep) (id : List ℕ) → is_path path ≡ true → lists ≡ decls.services
    → schema ≡ decls.data_schema → is_service_at lists schema path ≡ true → id ≡ path_text path → is_service decls id ≡ true
service_known decls lists schema path id is same model at text =
    let there : is_service_path decls path ≡ true =
    subst (λ (s : SchemaTable). is_service_at decls.services s path ≡ true) model (subst (λ (ls : List ServiceList). is_service_at ls schema path ≡ true) same at) in
    ap (λ (o : Option (List PathStep)). option_map_or (is_service_path decls) o false) (ap path_of text ∙ path_of_text path is) ∙ there

-- a body of the service at a path is one of that path's id
pub body_known : (decls : Decls) (schema : SchemaTable) (path : List PathStep) (id : List ℕ) (body : List Put) → is_path path ≡ true
    → schema ≡ decls.data_schema → is_body schema path body ≡ true → id ≡ path_text path → has_body decls id body ≡ true
body_known decls schema path id body is model has text =
    ap (λ (o : Option (List PathStep)). option_map_or (λ (entry : List PathStep). is_body decls.data_schema entry body) o false)
    (ap path_of text ∙ path_of_text path is) ∙ subst (λ (s : SchemaTable). is_body s path body ≡ true) model has
