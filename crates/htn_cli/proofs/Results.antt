-- What is known of a result, one step further.
use Rattle.std.proofs.Common.{Result, Ok, Err, OnOk, IfOk, IfErr, ◌≡◌, subst}

pub on_ok_too : {T E : Type 0} {P Q : Type 0} (r : Result T E) → (P → Q) → OnOk r P → OnOk r Q
on_ok_too (Ok x) f p = f p
on_ok_too (Err e) f p = p

pub if_ok_too : {T E : Type 0} {P Q : T → Type 0} (r : Result T E) → ((x : T) → P x → Q x) → IfOk r P → IfOk r Q
if_ok_too (Ok x) f p = f x p
if_ok_too (Err e) f p = p

pub if_err_too : {T E : Type 0} {P Q : E → Type 0} (r : Result T E) → ((e : E) → P e → Q e) → IfErr r P → IfErr r Q
if_err_too (Ok x) f p = p
if_err_too (Err e) f p = f e p

pub if_ok_both : {T E : Type 0} {P Q R : T → Type 0} (r : Result T E) → ((x : T) → P x → Q x → R x) → IfOk r P → IfOk r Q → IfOk r R
if_ok_both (Ok x) f p q = f x p q
if_ok_both (Err e) f p q = p

pub if_ok_same : {T E F : Type 0} (P : T → Type 0) (r : Result T E) (m : Result T F) → IfOk m (λ x. r ≡ Ok x) → IfOk r P → IfOk m P
if_ok_same P r (Ok x) e p = subst (λ z. IfOk z P) e p
if_ok_same P r (Err f) e p = e
