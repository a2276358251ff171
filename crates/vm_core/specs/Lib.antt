pub mod Vm
