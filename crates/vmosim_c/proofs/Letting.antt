-- The function that lets values of a type go, as a call is handed it for a type parameter. Assumes `Logic`.
use Rattle.std.proofs.Common.{[], ◌∷◌}
use seplogic.Ra.Ura.{Ura}
use mir.Syntax.{Dict, method, no_args}
use base.Logic.{sep, ex, emp, id⊢}
use base.Fml.{ftrue, fsep}
use prog.Model.{Model}
use prog.Routine.{Routine, ◌≼⁺◌}
use types.Logic.{Logic, sem}
use types.Kit.{raw, ◌$◌, ◌∵◌, !, qed, keep, join, show, done}
use contract.Running.{Running}
use denote.Builtin.{unit}
use denote.Exit.{yes}
use denote.Param.Glue.{Met}
use denote.RattleType.{RattleType}
use denote.Signature.{Signature, plain}
use denote.Steps.{nothing}
use denote.Triple.Carry.{spared}
use denote.Triple.Clauses.{closing}
use denote.Triple.Refines.{refines}
use denote.Triple.Spec.{Spec, Meets, triple_of}
use denote.Triple.Statement.{Implies, implied}
use denote.Triple.Table.{run_framed, widened}

module _ {M : Type 1} {𝓤 : Ura M} (𝓛 : Logic 𝓤) (𝓜 : Model 𝓤 𝓛.H) (𝓡 : Running 𝓤 𝓛.H 𝓜) (R : RattleType) where
  abbrev pub whole : Signature
  whole = record { lifetimes = 0; outlives = []; params = plain (λ _. R) ∷ []; result = plain (λ _. unit) }

  -- the function says nothing, whether its value is seen at its exit or not
  abbrev pub seen : Spec 𝓤 whole
  seen = closing 𝓛 (record { signature = whole; kept = (yes, tt) }) (λ κs a. record { ghost = Unit {0}; requires = λ _. emp 𝓤; ensures = λ _ r e. emp 𝓤 })

  abbrev unseen : Spec 𝓤 whole
  unseen κs a = record { ghost = Unit {0}; requires = λ _. emp 𝓤; ensures = λ _ r. ex 𝓤 (λ (ws : Unit {0} × Unit {0}). sep 𝓤 (sem 𝓛 (fsep ftrue ftrue)) (emp 𝓤)) }

  hides : Implies 𝓤 (triple_of 𝓛 whole seen) (triple_of 𝓛 whole unseen)
  hides = refines 𝓛 whole seen unseen (λ κs a g. tt) (λ κs a g. id⊢ 𝓤 (emp 𝓤))
      (λ κs a g r. qed 𝓛 (raw ((seen κs a).ensures tt r) ∷ []) ∵ keep ! [] $
      show ! (λ (ws : Unit {0} × Unit {0}). sep 𝓤 (sem 𝓛 (fsep ftrue ftrue)) (emp 𝓤)) (tt, tt) $ nothing ! $ nothing ! $ nothing ! $ join ! $ done !)

  pub lets_go : (d : Dict) (r : Routine) → r ≼⁺ 𝓡.env (method d 0 no_args) → Meets 𝓛 whole (𝓡.run r) seen → Met 𝓛 𝓜 𝓡 𝓡.env R d
  lets_go d r below met =
      let by_table : Routine = 𝓡.env (method d 0 no_args) in
      let frames = run_framed 𝓤 𝓛.H 𝓜 𝓡 by_table in
      spared 𝓛 whole (𝓡.run by_table) frames 1 (R.lives, tt) unseen
      (implied 𝓤 (triple_of 𝓛 whole seen) (triple_of 𝓛 whole unseen) hides (𝓡.run by_table) frames
      (widened 𝓤 𝓛.H (triple_of 𝓛 whole seen) 𝓜 𝓡 𝓡.env r by_table below met))
