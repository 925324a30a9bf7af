-- Calls with byte keys are a kind of calls that are served.
use Rattle.std.proofs.Common.{refl}
use Rattle.vm_bytes_form.proofs.BytesLaws.{bytes_is_layout}
use Rattle.vm_bytes_laws.proofs.Paid.{full_paid}
use Rattle.vm_bytes_history.proofs.from_vm_bytes_calls.Answering.{key_laws}
use Rattle.vm_serve.specs.Serving.{IsServing}
use Rattle.vm_bytes_serve.specs.KeyServing.{key_serving}

pub key_kind : IsServing key_serving
key_kind = record {
  laws = key_laws;
  layout_laws = bytes_is_layout;
  reading = λ h. refl;
  paid = λ start kept keeps none high. full_paid start kept keeps none high;
  beside = λ tells pages e w tree next telling began lists replies passes shown parts. tt;
}
