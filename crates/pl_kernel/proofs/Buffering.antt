-- What a step on the caller's bytes tells of the flat machine.
use Rattle.std.proofs.Common.{sym, ◌∙◌}
use Rattle.std.specs.Prelude.{Result, Ok, Err, IfOk, OnErr, Option, Some, None, IfSome, IfNone}
use Rattle.pl_model.specs.declared.calls.Step.{Step}
use Rattle.pl_model.proofs.renaming.Simulates.{unused_keys, same_reply}
use Rattle.pl_state.specs.Contents.{Contents, core_of}
use Rattle.pl_state.specs.Makes.{is_parked, ParksAtKeys}
use Rattle.pl_kernel.specs.Buffers.{Parks}

pub parks : {A : Type 0} (k : Contents A) (x : Step A) → ParksAtKeys k x → Parks k x
parks k x may = λ s stands.
    let keys = unused_keys (core_of k) s stands in
    (λ i. is_parked (sym (same_reply (core_of k) s x keys.0 stands keys.1) i)) ∙ may keys.0

pub if_both : {T E : Type 0} {P Q R : T → Type 0} (result : Result T E) → ((value : T) → P value → Q value → R value) → IfOk result P → IfOk result Q → IfOk result R
if_both (Ok value) f h k = f value h k
if_both (Err error) f h k = tt

pub if_err : {T E : Type 0} {P Q : Type 0} (result : Result T E) → (P → Q) → OnErr result P → OnErr result Q
if_err (Ok value) f h = tt
if_err (Err error) f h = f h

pub on_err : {T E : Type 0} {P : Type 0} (result : Result T E) → P → OnErr result P
on_err (Ok value) h = tt
on_err (Err error) h = h

pub if_some : {T : Type 0} {P Q : T → Type 0} (result : Option T) → ((value : T) → P value → Q value) → IfSome result P → IfSome result Q
if_some None f h = tt
if_some (Some value) f h = f value h

pub if_none : {T P Q : Type 0} (result : Option T) → (P → Q) → IfNone result P → IfNone result Q
if_none None f h = f h
if_none (Some value) f h = tt
